use Rattle.std.proofs.Common.{◌+◌, ◌*◌, ◌-◌, ◌≤◌, ◌<◌, List, ℕ}
use Rattle.std.specs.String.{string_bytes}
use Rattle.resb_icu_grammar.specs.Words.{Text}
use Rattle.resb_icu_text.proofs.PartsLemmas.{Left}
use Rattle.resb_icu_text.proofs.SeveralLemmas.{Strung}
use Rattle.resb_icu_text.proofs.parts.put_parts.Given as goal

abbrev pub invariant-parts : goal.invariant-parts
invariant-parts l = record {
  left : (said : List ℕ) → Text l.text l.from l.end said
      → Left (λ i v. Strung l.text i l.end v) l.at (string_bytes l.fn.value)
      (string_bytes l.value) said;
  below : l.at < l.end;
  cost : l.turns.count + 2 * l.from ≤ l.fn.turns.count + 2 * l.at;
}

abbrev pub decreases-parts : goal.decreases-parts
decreases-parts l = l.end - l.at
