-- Where a string has a fault in quotes, and what was expected there: an escape that this form doesn't
-- have, or a quote that closes a piece.
use Rattle.std.specs.Prelude.{◌≡◌, ◌≢◌, ◌≤◌, ◌<◌, ◌+◌, ℕ, true, List, length, slice_index}
use Rattle.std.specs.Prelude.{if◌then◌else◌}
use Rattle.resb_grammar.specs.Ascii as ascii
use Rattle.resb_icu_grammar.specs.Bytes.{backslash}
use Rattle.resb_icu_grammar.specs.Blanks.{Skip}
use Rattle.resb_icu_grammar.specs.Escapes.{Escape, says_half}
use Rattle.resb_icu_grammar.specs.Pieces.{QuotedPiece}
use Rattle.resb_icu_grammar.specs.Words.{Part, another_follows}
use Rattle.resb_icu_grammar.specs.declared.expected.IcuExpected.{IcuExpected}
use Rattle.resb_icu_grammar.specs.declared.expected.IcuExpected.TheVariants as expect

-- behind a backslash stands no escape of this form
abbrev pub NoEscapeAt : List ℕ → ℕ → Type 0
NoEscapeAt text at = (to : ℕ) (s : List ℕ) → Escape text at to s → ⊥

-- what was expected behind a backslash without an escape: for half of a surrogate pair the other
-- half, since a string is text, and so has none alone
abbrev pub escape_there : List ℕ → ℕ → IcuExpected
escape_there text at = if says_half text at then expect.WholePair else expect.Escape

-- a quoted piece, given the place of its opening quote, has a fault at or behind a place inside it:
-- behind bytes and escapes comes a backslash without an escape, where one was expected; or the end
-- of the text, and a closing quote was expected, which is told at the opening one
pub data PieceFault (text : List ℕ) (opening : ℕ) : ℕ → ℕ → IcuExpected → Type 0 where
  no_escape : (at : ℕ) → slice_index text at ≡ backslash → NoEscapeAt text (at + 1)
      → PieceFault text opening at at (escape_there text (at + 1))
  no_end : (at : ℕ) → length text ≤ at → PieceFault text opening at opening expect.ClosingQuote
  byte : (at to : ℕ) (x : IcuExpected) → at < length text → slice_index text at ≢ ascii.quote
      → slice_index text at ≢ backslash → PieceFault text opening (at + 1) to x
      → PieceFault text opening at to x
  escape : (at next to : ℕ) (s : List ℕ) (x : IcuExpected) → slice_index text at ≡ backslash
      → Escape text (at + 1) next s → PieceFault text opening next to x
      → PieceFault text opening at to x

-- quoted pieces in a row have a fault: the first does, or one behind it
pub data PiecesFault (text : List ℕ) : ℕ → ℕ → IcuExpected → Type 0 where
  this_piece : (from to : ℕ) (x : IcuExpected) → slice_index text from ≡ ascii.quote
      → PieceFault text from (from + 1) to x → PiecesFault text from to x
  later_piece : (from mid next to : ℕ) (s : List ℕ) (x : IcuExpected) → QuotedPiece text from mid s
      → Skip text mid next → PiecesFault text next to x → PiecesFault text from to x

-- a string has a fault: its first part does, or one behind it
pub data StringFault (text : List ℕ) : ℕ → ℕ → IcuExpected → Type 0 where
  this_part : (from to : ℕ) (x : IcuExpected) → PiecesFault text from to x
      → StringFault text from to x
  later_part : (from mid next to : ℕ) (s : List ℕ) (x : IcuExpected) → Part text from mid s
      → Skip text mid next → another_follows text from s next ≡ true → StringFault text next to x
      → StringFault text from to x

-- where this was expected, which a string may be: the fault of the string there is told, or, where
-- none has a fault, just this
pub data Told (text : List ℕ) (at : ℕ) (x : IcuExpected) : ℕ → IcuExpected → Type 0 where
  a_fault : (to : ℕ) (y : IcuExpected) → StringFault text at to y → Told text at x to y
  no_fault : ((to : ℕ) (y : IcuExpected) → StringFault text at to y → ⊥) → Told text at x at x
