-- No line ended so far.
use Rattle.std.proofs.Common.{◌≡◌, false}
use Rattle.resb_diagnostics.specs.IcuWarnings.{line_ended}
use Rattle.resb_diagnostics.proofs.icu_runs.ended_behind.Given as goal

abbrev pub invariant-loop-at : goal.invariant-loop-at
invariant-loop-at l = record { none : line_ended l.text l.at ≡ false }
