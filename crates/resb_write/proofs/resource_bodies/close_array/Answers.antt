use Rattle.std.proofs.Common.{◌++◌, length, sym, ◌∙◌, ap, arith}
use Rattle.resb_layout.specs.Laid.{offsets_by}
use Rattle.resb_write.specs.Inner.Lending.{lent_of}
use Rattle.resb_write.specs.Inner.Room.{at_base, laid_of}
use Rattle.resb_write.proofs.Closings.{array_in_units, array_in_tail, units_taken, tail_taken}
use Rattle.resb_write.proofs.resource_bodies.close_array.Goals as goal

pub returns-then-are_short_strings-clause-lays : goal.returns-then-are_short_strings-clause-lays
returns-then-are_short_strings-clause-lays c =
    let at = c.len-at.ensures in
    array_in_units (lent_of c.args.ground.now.lent) (at_base c.args.ground.now.base)
    (laid_of c.args.bodies.now) c.args.words.now
    c.put_offsets.new.units.items c.word.result c.len-at.result
    (sym c.are_short_strings.ensures ∙ c.if-are_short_strings.true)
    (omega (arith, c.requires.units)) (c.in_ok-put_offsets.ensures
    ∙ ap (λ l. l ++ offsets_by (lent_of c.args.ground.now.lent) c.args.words.now)
    c.in_ok-push.ensures.items)
    (at ∙ c.args.bodies.now.units.ok.0) c.word.ensures

pub returns-then-are_short_strings-clause-takes : goal.returns-then-are_short_strings-clause-takes
returns-then-are_short_strings-clause-takes c =
    let n = units_taken (lent_of c.args.ground.now.lent) c.args.bodies.now.units.items
    c.put_offsets.new.units.items c.args.words.now
    (c.in_ok-put_offsets.ensures ∙ ap (λ l. l ++ offsets_by (lent_of c.args.ground.now.lent)
    c.args.words.now)
    c.in_ok-push.ensures.items) in
    record { aligned = c.requires.aligned; units = omega (arith, n); bytes = omega arith }

pub returns-clause-lays : goal.returns-clause-lays
returns-clause-lays c =
    array_in_tail (lent_of c.args.ground.now.lent) (at_base c.args.ground.now.base)
    (laid_of c.args.bodies.now) c.args.words.now
    c.put_counted.new.tail.items c.word-2.result c.tail_value-at.result
    (sym c.are_short_strings.ensures ∙ c.if-are_short_strings.false)
    (omega (arith, c.tail_value-at.ensures.at, ap length c.deref.ensures.value))
    c.tail_value-at.ensures.fits (omega (arith, c.requires.bytes))
    c.in_ok-put_counted.ensures c.word-2.ensures

pub returns-clause-takes : goal.returns-clause-takes
returns-clause-takes c =
    let n = tail_taken c.args.bodies.now.tail.items c.put_counted.new.tail.items c.args.words.now
    c.in_ok-put_counted.ensures in
    record {
      aligned = omega (arith, n, c.requires.aligned);
      units = omega arith;
      bytes =
          omega (arith, n);
    }
