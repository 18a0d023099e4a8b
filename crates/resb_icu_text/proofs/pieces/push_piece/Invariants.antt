use Rattle.std.proofs.Common.{◌-◌, ◌≤◌, ℕ, List}
use Rattle.std.specs.Str.{IsCharBoundary}
use Rattle.std.specs.String.{string_bytes}
use Rattle.resb_icu_grammar.specs.Pieces.{QuotedBytes}
use Rattle.resb_icu_text.proofs.PiecesLemmas.{Adds}
use Rattle.resb_icu_text.proofs.pieces.push_piece.Given as goal

abbrev pub invariant-piece : goal.invariant-piece
invariant-piece l = record {
  order : l.start ≤ l.at;
  fits : l.at ≤ l.last;
  begins : IsCharBoundary l.text l.start;
  adds : (bytes : List ℕ) → QuotedBytes l.text l.from l.last bytes
      → Adds l.text l.from l.last l.start l.at (string_bytes l.fn.value) (string_bytes l.value)
      bytes;
}

abbrev pub decreases-piece : goal.decreases-piece
decreases-piece l = l.last - l.at
