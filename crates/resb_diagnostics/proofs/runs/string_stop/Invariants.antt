-- Neither a quote nor a backslash stands before the place.
use Rattle.std.proofs.Common.{◌-◌, ◌≤◌, length}
use Rattle.resb_diagnostics.specs.Inner.Tokens.{IsPlain}
use Rattle.resb_diagnostics.proofs.runs.string_stop.Given as goal

abbrev pub invariant-sixteens : goal.invariant-sixteens
invariant-sixteens l = record {
  order : l.from ≤ l.at;
  fits : l.at ≤ length l.text;
  plain : IsPlain l.text l.from l.at;
}

abbrev pub decreases-sixteens : goal.decreases-sixteens
decreases-sixteens l = length l.text - l.at
