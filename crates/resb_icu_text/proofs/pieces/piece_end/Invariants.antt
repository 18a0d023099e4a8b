use Rattle.std.proofs.Common.{◌≡◌, ◌+◌, ◌-◌, ◌≤◌, ◌<◌, ℕ, true, false, length, slice_index}
use Rattle.resb_icu_grammar.specs.Bytes.{backslash}
use Rattle.resb_icu_grammar.specs.Words.{HasNoEscape}
use Rattle.resb_icu_text.proofs.PiecesLemmas.{GoesOn, FaultOn}
use Rattle.resb_icu_text.proofs.pieces.piece_end.Given as goal

abbrev pub invariant-piece : goal.invariant-piece
invariant-piece l = record {
  order : l.from ≤ l.at;
  fits : l.at ≤ length l.text;
  on : GoesOn l.text l.at l.from l.length;
  short : l.length + l.from ≤ l.at;
  fault : FaultOn l.text (l.from - 1) l.at l.from;
  clean : l.is_plain ≡ true → HasNoEscape l.text l.from l.at;
  dirty : l.is_plain ≡ false → (k : ℕ) × (l.from ≤ k) × (k < l.at)
      × (slice_index l.text k ≡ backslash);
  cost : l.turns.count + l.from ≤ l.fn.turns.count + l.at;
}

abbrev pub decreases-piece : goal.decreases-piece
decreases-piece l = length l.text - l.at
