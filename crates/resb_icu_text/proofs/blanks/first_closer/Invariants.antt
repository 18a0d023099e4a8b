use Rattle.std.proofs.Common.{ℕ, ◌<◌, ◌≤◌}
use Rattle.resb_grammar.specs.Lexical.{Closer}
use Rattle.resb_icu_text.proofs.blanks.first_closer.Given as goal

abbrev pub invariant-loop-at : goal.invariant-loop-at
invariant-loop-at l = record {
  none : (k : ℕ) → l.from ≤ k → k < l.at → Closer l.text k → ⊥;
}
