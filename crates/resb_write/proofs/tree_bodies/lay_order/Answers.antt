use Rattle.std.proofs.Common.{[], length, refl, sym, ◌∙◌, ap, subst, arith}
use Rattle.std.proofs.lemmas.List.{same_from_push}
use Rattle.resb_layout.specs.Laid.{LaysBy}
use Rattle.resb_tree.specs.LayingOrder.{laying_order}
use Rattle.resb_write.specs.Inner.Lending.{lent_of}
use Rattle.resb_write.specs.Inner.StackSteps.{LaysRow}
use Rattle.resb_write.specs.Inner.Room.{laid_of}
use Rattle.resb_write.specs.Inner.Seen.{Suffices}
use Rattle.resb_write.proofs.PlacesLeft.{based, same_places_based}
use Rattle.resb_write.proofs.Rows.{empty_stack_suffices}
use Rattle.resb_write.proofs.Stacks.{steps_lay_trees}
use Rattle.resb_write.proofs.tree_bodies.lay_order.Goals as goal

pub steps-requires : goal.steps-requires
steps-requires g c =
    let r = c.requires in (
      laying_order r.0,
      r.1,
      record {
        room = r.2;
        enough = subst (λ ws. Suffices (length ws) (laying_order r.0))
            (sym c.new-words.ensures.items) (empty_stack_suffices r.0);
      },
      r.3,
      r.4,
    )

pub unreachable-requires : goal.unreachable-requires
unreachable-requires g c =
    let n = c.requires in
    let t = n.0 in
    let given = based n.3 c.args.ground.now.base c.args.ground.now.packing in
    let s = laid_of c.args.bodies.now in
    let e = laid_of c.steps.new.bodies in
    let ws = c.steps.new.words.items in
    let h = subst (λ l. LaysRow (lent_of c.args.ground.now.lent) given s l
    (laying_order t) e ws) c.new-words.ensures.items
    (c.in_ok-steps.ensures.lays given refl (laying_order t) refl n.1 (same_places_based n.4)) in
    let r = steps_lay_trees (lent_of c.args.ground.now.lent) given s e t ws h in
    omega (arith, c.in_default.ensures.cases.0, c.steps.new.words.ok.0, ap length r.1)

pub returns-clause-lays : goal.returns-clause-lays
returns-clause-lays g c = λ given at t q f n.
    let s = laid_of c.args.bodies.now in
    let e = laid_of c.steps.new.bodies in
    let ws = c.steps.new.words.items in
    let h = subst (λ l. LaysRow (lent_of c.args.ground.now.lent) given s l
    (laying_order t) e ws) c.new-words.ensures.items
    (c.in_ok-steps.ensures.lays given at (laying_order t) q f n) in
    let r = steps_lay_trees (lent_of c.args.ground.now.lent) given s e t ws h in
    let last = same_from_push c.pop.new.self.items [] c.in-Some.word r.0
    (sym c.in-Some.ensures.items ∙ r.1) in
    subst (LaysBy (lent_of c.args.ground.now.lent) given s t e) (sym last.1) r.2
