use Rattle.std.proofs.Common.{◌≡◌, ◌-◌, ◌≤◌, ◌<◌, List, ℕ, length}
use Rattle.resb_icu_grammar.specs.Unquoted.{UnquotedRow}
use Rattle.resb_icu_text.proofs.RowLemmas.{PairsLeft}
use Rattle.resb_icu_text.proofs.rows.row_pairs.Given as goal

abbrev pub invariant-row : goal.invariant-row
invariant-row l = record {
  left : (said : List ℕ) → UnquotedRow l.text l.from l.end said
      → (made : List ℕ) × (length made ≡ l.count) × PairsLeft l.text l.at l.end made said;
  below : l.at < l.end;
  counted : l.count ≤ l.at;
}

abbrev pub decreases-row : goal.decreases-row
decreases-row l = l.end - l.at
