use Rattle.std.proofs.Common.{◌≡◌, ℕ, ◌<◌, ◌≤◌, false, slice_index}
use Rattle.resb_icu_grammar.specs.Blanks.{are_there}
use Rattle.resb_grammar.specs.ByteRuns.{is_line_end}
use Rattle.resb_icu_text.proofs.blanks.line_end.Given as goal

abbrev pub invariant-loop-at : goal.invariant-loop-at
invariant-loop-at l = record {
  inner : (k : ℕ) → l.from ≤ k → k < l.at → is_line_end (slice_index l.text k) ≡ false;
  plain : (k : ℕ) → l.from ≤ k → k < l.at → are_there 0xe2 0x80 0xa9 l.text k ≡ false;
}
