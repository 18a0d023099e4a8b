use Rattle.std.proofs.Common.{◌≡◌, ◌+◌, ◌*◌, ◌-◌, ◌≤◌, ◌<◌, ℕ, length, slice_index}
use Rattle.resb_grammar.specs.Ascii as ascii
use Rattle.resb_icu_grammar.specs.Faults.{PiecesFault}
use Rattle.resb_icu_grammar.specs.Pieces.{QuotedPiece, Joined}
use Rattle.resb_icu_grammar.specs.declared.expected.IcuExpected.{IcuExpected}
use Rattle.resb_icu_text.proofs.PartsLemmas.{Walked}
use Rattle.resb_icu_text.proofs.strings.quoted.Given as goal

abbrev pub invariant-pieces : goal.invariant-pieces
invariant-pieces l = record {
  order : l.from ≤ l.at;
  fits : l.at < length l.text;
  opens : slice_index l.text l.at ≡ ascii.quote;
  short : l.length + l.from ≤ l.at;
  walked : Walked (QuotedPiece l.text) (Joined l.text) l.from l.at l.length;
  fault : (to : ℕ) (x : IcuExpected) → PiecesFault l.text l.at to x
      → PiecesFault l.text l.from to x;
  cost : l.turns.count + 2 * l.from ≤ l.fn.turns.count + 2 * l.at;
}

abbrev pub decreases-pieces : goal.decreases-pieces
decreases-pieces l = length l.text - l.at
