use Rattle.std.proofs.Common.{◌≡◌, ◌<◌, ◌^◌, [], length, sym, ◌∙◌, ap, subst, arith}
use Rattle.std.proofs.lemmas.Bool.{eqb-true, eqb-false}
use Rattle.std.proofs.lemmas.List.Elements.{All-from_get_or}
use Rattle.resb_tree.specs.Tree.{int_vector}
use Rattle.resb_layout.specs.Laid.{LaysBy, lays_no_numbers}
use Rattle.resb_write.specs.Inner.Lending.{lent_of}
use Rattle.resb_write.specs.Inner.Room.{at_base, laid_of}
use Rattle.std.proofs.lemmas.List.{nil_from_length}
use Rattle.resb_write.proofs.Closings.{numbers_laid, tail_taken}
use Rattle.resb_write.proofs.resource_bodies.lay_numbers.Goals as goal

pub returns-then-is_empty-clause-lays : goal.returns-then-is_empty-clause-lays
returns-then-is_empty-clause-lays c =
    let z : c.args.numbers.now ≡ [] =
    nil_from_length c.args.numbers.now (eqb-true (length c.args.numbers.now) 0
    (sym c.is_empty.ensures ∙ c.if-is_empty.true)) in
    subst (λ ns. LaysBy (lent_of c.args.ground.now.lent) (at_base c.args.ground.now.base)
    (laid_of c.args.bodies.now) (int_vector ns)
    (laid_of c.args.bodies.now) c.word.result) (sym z)
    (subst (LaysBy (lent_of c.args.ground.now.lent) (at_base c.args.ground.now.base)
    (laid_of c.args.bodies.now) (int_vector [])
    (laid_of c.args.bodies.now)) (sym c.word.ensures) lays_no_numbers)

pub returns-clause-lays : goal.returns-clause-lays
returns-clause-lays c =
    let n = eqb-false (length c.args.numbers.now) 0 (sym c.is_empty.ensures
    ∙ c.if-is_empty.false) in
    numbers_laid (lent_of c.args.ground.now.lent) (at_base c.args.ground.now.base)
    (laid_of c.args.bodies.now) c.args.numbers.now
    c.put_counted.new.tail.items c.word-2.result c.tail_value-at.result
    (omega (arith, n)) (omega (arith, c.requires.bytes))
    (All-from_get_or (λ p. p < 2 ^ 32) c.args.numbers.now 0 (λ i l. let f =
    c.type_inv.numbers i in omega (arith, f)))
    (omega (arith, c.tail_value-at.ensures.at, ap length c.deref.ensures.value))
    c.tail_value-at.ensures.fits c.in_ok-put_counted.ensures c.word-2.ensures

pub returns-clause-takes : goal.returns-clause-takes
returns-clause-takes c =
    let n = tail_taken c.args.bodies.now.tail.items c.put_counted.new.tail.items c.args.numbers.now
    c.in_ok-put_counted.ensures in
    record {
      aligned = omega (arith, n, c.requires.aligned);
      units = omega arith;
      bytes =
          omega (arith, n);
    }
