use Rattle.std.proofs.Common.{◌<◌, ◌∙◌, length, arith}
use Rattle.resb_format.specs.Bytes.{units_of}
use Rattle.resb_format.proofs.Spelled.{units_length}
use Rattle.resb_walk.proofs.Spelling.{spelled_more, spelled_all, further_below}
use Rattle.resb_walk.proofs.units.short_text.Goals as goal

pub units-preserved : goal.units-preserved
units-preserved c =
    let i = c.units.invariant in
    let us = units_of c.args.bytes.now in
    let n = c.units.number in
    let inside : n < length us = omega (arith, units_length c.args.bytes.now) in record {
      room = omega (arith, i.room, c.spell-end.ensures.room);
      long = c.spell-end.ensures.whole ∙ i.long;
      text = spelled_more us c.units.spelled c.spell-end.new.spelled n c.units.end
          c.spell-end.result c.unit_at-unit.result inside i.text c.spell-end.ensures.text
          c.unit_at-unit.ensures;
      plain = further_below us n 0xd800 (rw (← c.unit_at-unit.ensures) c.if-unit-ge55296.false)
          i.plain;
    }

pub from_utf8_unchecked-text-requires : goal.from_utf8_unchecked-text-requires
from_utf8_unchecked-text-requires c =
    let i = c.units.invariant in
    (spelled_all c.args.bytes.now c.units.spelled c.units.number c.units.end (omega arith)
    i.text i.plain).0

pub returns : goal.returns
returns c =
    let i = c.units.invariant in
    c.in_ok-from_str.ensures.ok ∙ c.from_utf8_unchecked-text.ensures
    ∙ (spelled_all c.args.bytes.now c.units.spelled c.units.number c.units.end (omega arith)
    i.text i.plain).1
