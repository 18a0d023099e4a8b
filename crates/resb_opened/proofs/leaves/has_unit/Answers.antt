-- The loop finds the character among the units, or no unit is it.
use Rattle.std.proofs.Common.{arith}
use Rattle.resb_opened.proofs.AsciiLemmas.{found_unit, no_unit_found}
use Rattle.resb_opened.proofs.leaves.has_unit.Goals as goal

pub returns-then-unit_at-from : goal.returns-then-unit_at-from
returns-then-unit_at-from c =
    found_unit c.args.character c.args.units.now c.loop-number.number c.unit_at.result
    c.from.result c.requires (omega (arith, c.loop-number-test.true)) c.unit_at.ensures
    c.from.ensures c.if-unit_at-from.true

pub returns : goal.returns
returns c =
    no_unit_found c.args.character c.args.units.now c.requires
    (λ k below. c.loop-number.invariant k (omega (arith, below, c.loop-number-test.false)))
