-- No `*/` began so far.
use Rattle.std.proofs.Common.{ℕ, ◌-◌, ◌<◌, ◌≤◌, length}
use Rattle.resb_grammar.specs.Lexical.{Closer}
use Rattle.resb_diagnostics.proofs.runs.block_end.Given as goal

abbrev pub invariant-stars : goal.invariant-stars
invariant-stars l = record {
  order : l.from ≤ l.at;
  fits : l.at ≤ length l.text;
  none : (k : ℕ) → l.from ≤ k → k < l.at → Closer l.text k → ⊥;
}

abbrev pub decreases-stars : goal.decreases-stars
decreases-stars l = length l.text - l.at
