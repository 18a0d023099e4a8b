use Rattle.std.proofs.Common.{◌≡◌, ℕ, ◌+◌, ◌-◌, ◌*◌, ◌≤◌, length}
use Rattle.std.specs.Prelude.{slice_index}
use Rattle.resb_grammar.specs.Ascii as ascii
use Rattle.resb_grammar.specs.Lexical.{Blanks}
use Rattle.resb_text.proofs.tokens.skip_comments.Given as goal

abbrev pub invariant-comments : goal.invariant-comments
invariant-comments l = record {
  order : l.from ≤ l.slash;
  fits : l.slash ≤ length l.text;
  stands : slice_index l.text l.slash ≡ ascii.slash;
  so_far : (to : ℕ) → Blanks l.text l.slash to → Blanks l.text l.from to;
  cost : l.ticks.count + 2 * l.from ≤ l.fn.ticks.count + 2 * l.slash;
}

abbrev pub decreases-comments : goal.decreases-comments
decreases-comments l = length l.text - l.slash
