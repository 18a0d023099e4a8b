use Rattle.std.proofs.Common.{ℕ, ◌+◌, ◌*◌, ◌-◌, ◌≤◌, length}
use Rattle.resb_icu_grammar.specs.Blanks.{Blanks}
use Rattle.resb_icu_text.proofs.blanks.skip_all.Given as goal

abbrev pub invariant-skip : goal.invariant-skip
invariant-skip l = record {
  order : l.from ≤ l.at;
  fits : l.at ≤ length l.text;
  so_far : (to : ℕ) → Blanks l.text l.at to → Blanks l.text l.from to;
  cost : l.turns.count + 2 * l.from ≤ l.fn.turns.count + 2 * l.at;
}

abbrev pub decreases-skip : goal.decreases-skip
decreases-skip l = length l.text - l.at
