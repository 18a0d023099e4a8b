-- No byte so far ends a line.
use Rattle.std.proofs.Common.{◌≡◌, ℕ, ◌<◌, ◌≤◌, false}
use Rattle.std.specs.Prelude.{slice_index}
use Rattle.resb_grammar.specs.ByteRuns.{is_line_end}
use Rattle.resb_diagnostics.proofs.icu_runs.icu_line_end.Given as goal

abbrev pub invariant-loop-at : goal.invariant-loop-at
invariant-loop-at l = record {
  none : (k : ℕ) → l.from ≤ k → k < l.at → is_line_end (slice_index l.text k) ≡ false;
}
