use Rattle.std.proofs.Common.{◌≡◌, [], length, sym, ◌∙◌, ap, subst, arith}
use Rattle.std.proofs.lemmas.Bool.{eqb-true, eqb-false}
use Rattle.std.proofs.lemmas.List.{nil_from_length}
use Rattle.resb_tree.specs.Tree.{alias}
use Rattle.resb_format.specs.Units.{units}
use Rattle.resb_layout.specs.Laid.{LaysBy, lays_no_path}
use Rattle.resb_write.specs.Inner.Lending.{lent_of}
use Rattle.resb_write.specs.Inner.Room.{at_base, laid_of}
use Rattle.resb_write.proofs.Closings.{path_laid, path_taken}
use Rattle.resb_write.proofs.resource_bodies.lay_path.Goals as goal

pub returns-then-is_empty-clause-lays : goal.returns-then-is_empty-clause-lays
returns-then-is_empty-clause-lays c =
    let z : c.args.path.now ≡ [] =
    nil_from_length c.args.path.now (eqb-true (length c.args.path.now) 0
    (sym c.is_empty.ensures ∙ c.if-is_empty.true)) in
    subst (λ path. LaysBy (lent_of c.args.ground.now.lent) (at_base c.args.ground.now.base)
    (laid_of c.args.bodies.now) (alias path)
    (laid_of c.args.bodies.now) c.word.result) (sym z)
    (subst (LaysBy (lent_of c.args.ground.now.lent) (at_base c.args.ground.now.base)
    (laid_of c.args.bodies.now) (alias [])
    (laid_of c.args.bodies.now)) (sym c.word.ensures) lays_no_path)

pub returns-clause-lays : goal.returns-clause-lays
returns-clause-lays c =
    let n = eqb-false (length c.args.path.now) 0 (sym c.is_empty.ensures ∙ c.if-is_empty.false) in
    path_laid (lent_of c.args.ground.now.lent) (at_base c.args.ground.now.base)
    (laid_of c.args.bodies.now) c.args.path.now
    c.put_path.new.tail.items c.word-2.result c.tail_value-at.result
    (omega (arith, n)) c.utf8.path (omega (arith, c.requires.bytes))
    (omega (arith, c.tail_value-at.ensures.at, ap length c.deref.ensures.value))
    c.tail_value-at.ensures.fits c.in_ok-put_path.ensures c.word-2.ensures

pub returns-clause-takes : goal.returns-clause-takes
returns-clause-takes c =
    let n = path_taken c.args.bodies.now.tail.items c.put_path.new.tail.items
    (units c.args.path.now) c.in_ok-put_path.ensures in
    record {
      aligned = omega (arith, n.1, c.requires.aligned);
      units = omega arith;
      bytes = n.0;
    }
