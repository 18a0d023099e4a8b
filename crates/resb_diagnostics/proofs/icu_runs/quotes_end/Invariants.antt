-- All bytes so far are in quotes.
use Rattle.std.proofs.Common.{◌-◌, ◌≤◌, length}
use Rattle.resb_diagnostics.proofs.IcuQuotes.{QuotedUpTo}
use Rattle.resb_diagnostics.proofs.icu_runs.quotes_end.Given as goal

abbrev pub invariant-stops : goal.invariant-stops
invariant-stops l = record {
  fits : l.at ≤ length l.text;
  quoted : QuotedUpTo l.text l.from l.at;
}

abbrev pub decreases-stops : goal.decreases-stops
decreases-stops l = length l.text - l.at
