use Rattle.std.proofs.Common.{◌+◌, ◌<◌, List, length, get_or, take, drop, refl, sym, subst}
use Rattle.std.proofs.Common.{arith}
use Rattle.resb_tree.specs.Tree.{Tree}
use Rattle.resb_write.specs.Inner.Lending.{lent_of}
use Rattle.resb_write.specs.Inner.StackSteps.{LaysRow, row_none}
use Rattle.resb_write.specs.Inner.Room.{laid_of, GivesInTurn, HasRoomFor}
use Rattle.resb_write.specs.Inner.Seen.{CanLay}
use Rattle.std.proofs.lemmas.List.{take_all, drop_all}
use Rattle.resb_write.specs.Inner.Nodes.{no_tree}
use Rattle.resb_write.proofs.NodesLemmas.{trees-drop, trees-take}
use Rattle.resb_write.proofs.PlacesLeft.{based, same_places_based}
use Rattle.resb_write.proofs.Rows.{steps_push, step_long, has_room, can_go_on}
use Rattle.resb_write.proofs.tree_bodies.steps.Goals as goal

pub loop-at-init : goal.loop-at-init
loop-at-init g c = record {
  left = λ given ts f n. subst (λ l. GivesInTurn given l c.coming-coming.result.offsets.now ts)
      (sym c.coming-coming.ensures.positions)
      (subst (λ l. GivesInTurn given c.args.sites.now.positions.now l ts)
      (sym c.coming-coming.ensures.offsets) n);
  done = λ given e ts q f n. row_none;
  can = λ given ts f n can. can;
}

pub node-requires : goal.node-requires
node-requires g c = (
  c.requires.0,
  c.requires.1,
  omega (arith, c.loop-at-test.true, c.count-at-end.ensures c.requires.0 c.requires.1),
)

pub step-requires : goal.step-requires
step-requires g c =
    let r = c.requires in
    let ts = r.0 in
    let i = c.loop-at.at in
    let h : i < length ts =
    omega (arith, c.loop-at-test.true, c.count-at-end.ensures ts r.1) in
    let t = get_or ts i no_tree in
    let rest = drop (i + 1) ts in
    let split = trees-drop ts i h in
    let v = c.loop-at.invariant in
    let old = c.loop-at.words.items in
    let can = subst (CanLay c.args.ground.now.base c.loop-at.bodies (length old)) split
    (v.can r.3 ts r.1 r.4 r.2) in (
      t,
      c.node.ensures ts r.1 h,
      has_room c.args.ground.now.base c.loop-at.bodies (length old) t rest can,
      can.enough.0,
      r.3,
      rest,
      subst (GivesInTurn r.3 c.loop-at.coming.positions.now c.loop-at.coming.offsets.now) split
          (v.left r.3 ts r.1 r.4),
    )

pub loop-at-preserved : goal.loop-at-preserved
loop-at-preserved g c =
    let i = c.loop-at.at in
    let inside : (ts : List Tree) → g.N.Nodes.fit c.args.order.now ts → i < length ts
    = λ ts f. omega (arith, c.loop-at-test.true, c.count-at-end.ensures ts f) in
    let old = c.loop-at.words.items in
    let new = c.step.new.words.items in
    let ps = c.loop-at.coming.positions.now in
    let os = c.loop-at.coming.offsets.now in
    let v = c.loop-at.invariant in
    record {
      left = λ given ts f n.
          let t = get_or ts i no_tree in
          let fits = c.node.ensures ts f (inside ts f) in
          c.in_ok-step.ensures.left given t (drop (i + 1) ts) fits
          (subst (GivesInTurn given ps os) (trees-drop ts i (inside ts f))
          (v.left given ts f n));
      done = λ given e ts q f n.
          let t = get_or ts i no_tree in
          let fits = c.node.ensures ts f (inside ts f) in
          let k = c.in_ok-step.ensures.step given e t (drop (i + 1) ts) q fits
          (subst (GivesInTurn given ps os) (trees-drop ts i (inside ts f))
          (v.left given ts f n)) in
          subst (λ us. LaysRow (lent_of c.args.ground.now.lent) given
          (laid_of c.args.bodies.now) c.args.words.now.items us
          (laid_of c.step.new.bodies) new) (sym (trees-take ts i (inside ts f)))
          (steps_push (lent_of c.args.ground.now.lent) given (laid_of c.args.bodies.now)
          (laid_of c.loop-at.bodies)
          (laid_of c.step.new.bodies) c.args.words.now.items old new (take i ts) t
          (v.done given e ts q f n) k);
      can = λ given ts f n can.
          let t = get_or ts i no_tree in
          let rest = drop (i + 1) ts in
          let fits = c.node.ensures ts f (inside ts f) in
          let split = trees-drop ts i (inside ts f) in
          let own = based given c.args.ground.now.base c.args.ground.now.packing in
          can_go_on c.args.ground.now.base c.loop-at.bodies (length old) t rest
          (subst (CanLay c.args.ground.now.base c.loop-at.bodies (length old)) split
          (v.can given ts f n can)) c.step.new.bodies (length new)
          (c.in_ok-step.ensures.takes t fits)
          (step_long (lent_of c.args.ground.now.lent) own (laid_of c.loop-at.bodies)
          (laid_of c.step.new.bodies) old new t
          (c.in_ok-step.ensures.step own refl t rest refl fits
          (subst (GivesInTurn own ps os) split (v.left own ts f (same_places_based n)))));
    }

pub returns-clause-lays : goal.returns-clause-lays
returns-clause-lays g c = λ given e ts q f n.
    subst (λ us. LaysRow (lent_of c.args.ground.now.lent) given
    (laid_of c.args.bodies.now) c.args.words.now.items us
    (laid_of c.loop-at.bodies) c.loop-at.words.items)
    (take_all c.loop-at.at ts
    (omega (arith, c.loop-at-test.false, c.count-at-end.ensures ts f)))
    (c.loop-at.invariant.done given e ts q f n)

pub returns-clause-fits : goal.returns-clause-fits
returns-clause-fits g c =
    let r = c.requires in
    subst (HasRoomFor c.args.ground.now.base (laid_of c.loop-at.bodies))
    (drop_all c.loop-at.at r.0
    (omega (arith, c.loop-at-test.false, c.count-at-end.ensures r.0 r.1)))
    (c.loop-at.invariant.can r.3 r.0 r.1 r.4 r.2).room
