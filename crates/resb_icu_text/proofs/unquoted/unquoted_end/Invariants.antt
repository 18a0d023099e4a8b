use Rattle.std.specs.Prelude.{◌≡◌, ◌≤◌, ◌<◌, ℕ, true}
use Rattle.resb_icu_grammar.specs.Unquoted.{goes_on}
use Rattle.resb_icu_text.proofs.unquoted.unquoted_end.Given as goal

abbrev pub invariant-loop-at : goal.invariant-loop-at
invariant-loop-at l = record {
  each : (k : ℕ) → l.from ≤ k → k < l.at → goes_on l.text k ≡ true;
}
