-- The word goes on with all bytes so far.
use Rattle.std.proofs.Common.{◌≡◌, ℕ, ◌<◌, ◌≤◌, true}
use Rattle.resb_diagnostics.specs.IcuWarnings.{word_goes_on}
use Rattle.resb_diagnostics.proofs.icu_runs.icu_word_end.Given as goal

abbrev pub invariant-loop-at : goal.invariant-loop-at
invariant-loop-at l = record {
  each : (k : ℕ) → l.from ≤ k → k < l.at → word_goes_on l.text k ≡ true;
}
