-- The byte doesn't stand before the place.
use Rattle.std.proofs.Common.{◌-◌, ◌≤◌}
use Rattle.resb_diagnostics.specs.Inner.Tokens.{NoByte}
use Rattle.resb_diagnostics.proofs.runs.near_byte.Given as goal

abbrev pub invariant-sixteens : goal.invariant-sixteens
invariant-sixteens l = record {
  order : l.from ≤ l.at;
  fits : l.at ≤ l.to;
  none : NoByte l.byte l.text l.from l.at;
}

abbrev pub decreases-sixteens : goal.decreases-sixteens
decreases-sixteens l = l.to - l.at
