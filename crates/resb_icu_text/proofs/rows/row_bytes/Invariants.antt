use Rattle.std.proofs.Common.{◌+◌, ◌*◌, ◌-◌, ◌≤◌, ◌<◌, List, ℕ}
use Rattle.resb_icu_grammar.specs.Unquoted.{UnquotedRow}
use Rattle.resb_icu_text.proofs.RowLemmas.{PairsLeft}
use Rattle.resb_icu_text.proofs.rows.row_bytes.Given as goal

abbrev pub invariant-row : goal.invariant-row
invariant-row l = record {
  left : (said : List ℕ) → UnquotedRow l.text l.from l.end said
      → PairsLeft l.text l.at l.end l.bytes.items said;
  below : l.at < l.end;
  cost : l.turns.count + 2 * l.from ≤ l.fn.turns.count + 2 * l.at;
}

abbrev pub decreases-row : goal.decreases-row
decreases-row l = l.end - l.at
