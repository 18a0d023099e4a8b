use Rattle.std.proofs.Common.{◌<◌, ◌^◌, length, sym, ◌∙◌, ap, arith}
use Rattle.std.proofs.lemmas.List.Elements.{All-from_get_or}
use Rattle.resb_layout.specs.Laid.{nears_by}
use Rattle.resb_layout.proofs.Forms.{nears_many}
use Rattle.resb_write.specs.Inner.Lending.{lent_of}
use Rattle.resb_write.specs.Inner.Room.{at_base, laid_of}
use Rattle.resb_write.proofs.Closings.{table_in_units, table_in_tail, table_is_wide, wide_taken}
use Rattle.resb_write.proofs.Closings.{table_taken}
use Rattle.resb_write.proofs.resource_bodies.close_table.Goals as goal

pub returns-then-not-are_near_positions-clause-lays
    : goal.returns-then-not-are_near_positions-clause-lays
returns-then-not-are_near_positions-clause-lays c =
    let h = c.if-not-are_near_positions.true in
    table_is_wide (lent_of c.args.ground.now.lent) (at_base c.args.ground.now.base)
    (laid_of c.args.bodies.now) c.args.positions.now
    c.args.words.now c.put_wide_table.new.tail.items c.word.result c.tail_value-at.result
    (sym c.are_near_positions.ensures
    ∙ h) (omega (arith, c.tail_value-at.ensures.at, ap length c.deref.ensures.value))
    c.tail_value-at.ensures.fits (omega (arith, c.requires.room.bytes, c.requires.many))
    (All-from_get_or (λ p. p < 2 ^ 32) c.args.positions.now 0 (λ i l. let f =
    c.type_inv.positions i in omega (arith, f)))
    c.in_ok-put_wide_table.ensures c.word.ensures

pub returns-then-not-are_near_positions-clause-takes
    : goal.returns-then-not-are_near_positions-clause-takes
returns-then-not-are_near_positions-clause-takes c =
    let n = wide_taken c.args.bodies.now.tail.items c.put_wide_table.new.tail.items
    c.args.positions.now c.args.words.now c.requires.many c.in_ok-put_wide_table.ensures in
    record {
      aligned = omega (arith, n, c.requires.room.aligned);
      units = omega arith;
      bytes =
          omega (arith, n);
    }

pub returns-then-are_short_strings-clause-lays : goal.returns-then-are_short_strings-clause-lays
returns-then-are_short_strings-clause-lays c =
    let h = c.if-not-are_near_positions.false in
    table_in_units (lent_of c.args.ground.now.lent) (at_base c.args.ground.now.base)
    (laid_of c.args.bodies.now) c.args.positions.now
    c.args.words.now c.put_unit_table.new.units.items c.word-then-are_short_strings.result
    c.len-at.result
    (sym c.are_near_positions.ensures ∙ h) (sym c.are_short_strings.ensures
    ∙ c.if-are_short_strings.true) (omega (arith, c.requires.room.units))
    c.in_ok-put_unit_table.ensures
    (c.len-at.ensures ∙ c.args.bodies.now.units.ok.0) c.word-then-are_short_strings.ensures

pub returns-clause-lays : goal.returns-clause-lays
returns-clause-lays c =
    let h = c.if-not-are_near_positions.false in
    table_in_tail (lent_of c.args.ground.now.lent) (at_base c.args.ground.now.base)
    (laid_of c.args.bodies.now) c.args.positions.now
    c.args.words.now c.put_short_table.new.tail.items c.word-2.result c.tail_value-at-2.result
    (sym c.are_near_positions.ensures ∙ h) (sym c.are_short_strings.ensures
    ∙ c.if-are_short_strings.false) (omega (
      arith,
      c.tail_value-at-2.ensures.at,
      ap length c.deref-2.ensures.value,
    )) c.tail_value-at-2.ensures.fits
    c.in_ok-put_short_table.ensures c.word-2.ensures

pub returns-clause-takes : goal.returns-clause-takes
returns-clause-takes c =
    let n = table_taken c.args.bodies.now.tail.items c.put_short_table.new.tail.items
    (nears_by (lent_of c.args.ground.now.lent) c.args.positions.now) c.args.words.now
    (nears_many (lent_of c.args.ground.now.lent) c.args.positions.now ∙ c.requires.many)
    c.in_ok-put_short_table.ensures in
    record {
      aligned = omega (arith, n.1, c.requires.room.aligned);
      units = omega arith;
      bytes =
          omega (arith, n.0);
    }
