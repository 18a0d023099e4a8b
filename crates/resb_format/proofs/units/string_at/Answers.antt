-- The first unit says which of the two forms the string has.
use Rattle.std.proofs.Common.{◌<◌, ◌⊎◌, ℕ, List, length, inl, inr, arith}
use Rattle.resb_format.specs.Bytes.{units_of}
use Rattle.resb_format.proofs.Spelled.{units_length}
use Rattle.resb_format.proofs.StringsIn.{at_marker, marker_fault, at_none, none_fault}
use Rattle.resb_format.proofs.units.string_at.Goals as goal
use Rattle.resb_format.proofs.units.string_at.Goals.{in_default-via-then-first-lt56320}

pub returns-in-56320-to-57343 : goal.returns-in-56320-to-57343
returns-in-56320-to-57343 c =
    let us : List ℕ = units_of c.args.block.now in
    let first = c.in_ok-first.first in
    let e = c.in_ok-first.ensures in
    rw (
      at_marker us c.args.unit first e.1,
      marker_fault us c.args.unit first e.1 (omega arith) (omega arith),
    ) c.marked.ensures

pub returns-in_default : goal.returns-in_default
returns-in_default c =
    let us : List ℕ = units_of c.args.block.now in
    let first = c.in_ok-first.first in
    let e = c.in_ok-first.ensures in
    let k : (first < 0xdc00) ⊎ (0xdfff < first) = elim c.in_default.branch [
      | in_default-via-then-first-lt56320 w ↦ inl (omega arith)
      | goal.in_default-via-else-first-lt56320+else-first-lt57344 w ↦ inr (omega arith)
    ] in
    let h : c.args.unit < length us = omega (arith, e.0, units_length c.args.block.now) in
    rw (at_none us c.args.unit first e.1 k, none_fault us c.args.unit first e.1 k h)
    c.unmarked.ensures
