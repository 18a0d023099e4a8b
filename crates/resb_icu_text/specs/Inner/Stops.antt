-- Where the bytes of a quoted piece stop that stand for themselves.
use Rattle.std.specs.Prelude.{◌≡◌, ◌≢◌, ◌≤◌, ◌<◌, ◌⊎◌, ℕ, true, false, List, length}
use Rattle.std.specs.Prelude.{slice_index}
use Rattle.resb_grammar.specs.Ascii as ascii
use Rattle.resb_icu_grammar.specs.Bytes.{backslash}
use Rattle.resb_icu_grammar.specs.Pieces.{QuotedBytes}
use Rattle.resb_icu_grammar.specs.Words.{HasNoEscape}
use Rattle.resb_icu_text.specs.declared.pieces.Piece.{Piece}

-- between these places stands neither a quote nor a backslash
abbrev pub HasNoStop : List ℕ → ℕ → ℕ → Type 0
HasNoStop text from to = (k : ℕ) → from ≤ k → k < to
    → (slice_index text k ≢ ascii.quote) × (slice_index text k ≢ backslash)

-- the first quote or backslash from a place on
pub record FirstStop (text : List ℕ) (from at : ℕ) : Type 0 where
  pub order : from ≤ at
  pub fits : at < length text
  pub before : HasNoStop text from at
  pub stops : (slice_index text at ≡ ascii.quote) ⊎ (slice_index text at ≡ backslash)

-- a piece whose first quote stands right before this place says so many bytes up to its closing
-- quote, and an escape stands there or none
pub record IsPiece (text : List ℕ) (from : ℕ) (p : Piece) : Type 0 where
  pub said : List ℕ
  pub stands : QuotedBytes text from p.last said
  pub counted : length said ≡ p.length
  pub plain : p.is_plain ≡ true → HasNoEscape text from p.last
  pub escaped : p.is_plain ≡ false → HasNoEscape text from p.last → ⊥
  pub order : from ≤ p.last
  pub fits : p.last < length text
