use Rattle.std.proofs.Common.{◌≡◌, ◌+◌, ◌*◌, ◌-◌, ◌≤◌, ◌⊎◌, true, length}
use Rattle.resb_icu_grammar.specs.Unquoted.{Unquoted, UnquotedRow, begins_unquoted}
use Rattle.resb_icu_text.proofs.PartsLemmas.{Walked}
use Rattle.resb_icu_text.proofs.strings.row.Given as goal

abbrev pub invariant-row : goal.invariant-row
invariant-row l = record {
  fits : l.at ≤ length l.text;
  begun : (l.at ≡ l.from) ⊎ ((l.from + 2 ≤ l.at) × (begins_unquoted l.text l.at ≡ true));
  short : l.length + l.from ≤ l.at;
  walked : Walked (Unquoted l.text) (UnquotedRow l.text) l.from l.at l.length;
  cost : l.turns.count + 2 * l.from ≤ l.fn.turns.count + 2 * l.at + 1;
}

abbrev pub decreases-row : goal.decreases-row
decreases-row l = length l.text - l.at
