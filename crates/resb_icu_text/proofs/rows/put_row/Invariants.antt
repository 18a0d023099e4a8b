use Rattle.std.proofs.Common.{◌+◌, ◌*◌, ◌-◌, ◌≤◌, ◌<◌, List, ℕ}
use Rattle.std.specs.String.{string_bytes}
use Rattle.resb_icu_grammar.specs.Unquoted.{UnquotedRow}
use Rattle.resb_icu_text.proofs.PartsLemmas.{Left}
use Rattle.resb_icu_text.proofs.RowLemmas.{Strings}
use Rattle.resb_icu_text.proofs.rows.put_row.Given as goal

abbrev pub invariant-row : goal.invariant-row
invariant-row l = record {
  left : (said : List ℕ) → UnquotedRow l.text l.from l.end said
      → Left (Strings l.text l.end) l.at (string_bytes l.fn.value) (string_bytes l.value) said;
  below : l.at < l.end;
  cost : l.turns.count + 2 * l.from ≤ l.fn.turns.count + 2 * l.at;
}

abbrev pub decreases-row : goal.decreases-row
decreases-row l = l.end - l.at
