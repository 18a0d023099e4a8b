-- Quoted pieces with their escapes, and strings of several pieces in a row.
use Rattle.std.specs.Prelude.{◌≡◌, ◌≢◌, ◌<◌, ◌+◌, ℕ, List, [], ◌∷◌, ◌++◌, length, slice_index}
use Rattle.resb_grammar.specs.Ascii as ascii
use Rattle.resb_icu_grammar.specs.Bytes.{backslash}
use Rattle.resb_icu_grammar.specs.Blanks.{Skip}
use Rattle.resb_icu_grammar.specs.Escapes.{Escape}

-- bytes and escapes up to the first quote that is in no escape, and what they stand for
pub data QuotedBytes (text : List ℕ) : ℕ → ℕ → List ℕ → Type 0 where
  ends : (at : ℕ) → slice_index text at ≡ ascii.quote → QuotedBytes text at at []
  byte : (at to : ℕ) (bytes : List ℕ) → at < length text → slice_index text at ≢ ascii.quote
      → slice_index text at ≢ backslash → QuotedBytes text (at + 1) to bytes
      → QuotedBytes text at to (slice_index text at ∷ bytes)
  escape : (at next to : ℕ) (first bytes : List ℕ) → slice_index text at ≡ backslash
      → Escape text (at + 1) next first → QuotedBytes text next to bytes
      → QuotedBytes text at to (first ++ bytes)

-- one quoted piece, with what it stands for
pub record QuotedPiece (text : List ℕ) (from to : ℕ) (bytes : List ℕ) : Type 0 where
  pub last : ℕ
  pub opens : slice_index text from ≡ ascii.quote
  pub inside : QuotedBytes text (from + 1) last bytes
  pub ends : to ≡ last + 1

-- all quoted pieces in a row with nothing but blanks between them, joined: behind the blanks after
-- the last of them stands no quote
pub data Joined (text : List ℕ) : ℕ → ℕ → List ℕ → Type 0 where
  last_piece : (from to next : ℕ) (bytes : List ℕ) → QuotedPiece text from to bytes
      → Skip text to next
      → slice_index text next ≢ ascii.quote → Joined text from to bytes
  one_more : (from mid next to : ℕ) (bytes later : List ℕ) → QuotedPiece text from mid bytes
      → Skip text mid next → Joined text next to later → Joined text from to (bytes ++ later)
