-- What is cut out of a text: words, and what stands between quotes.
use Rattle.std.specs.Prelude.{◌≡◌, ℕ, ◌-◌, ◌<◌, ◌≤◌, ◌⊎◌, List, length, slice_index}
use Rattle.resb_grammar.specs.Ascii as ascii
use Rattle.resb_grammar.specs.ByteRuns.{is_word, Each}

-- a non-empty run of word characters
pub record IsWordPiece (text : List ℕ) (from to : ℕ) : Type 0 where
  pub order : from < to
  pub fits : to ≤ length text
  pub each : Each is_word text from to

-- what stands between two quotes and holds none
pub record IsQuotedPiece (text : List ℕ) (from to : ℕ) : Type 0 where
  pub order : 0 < from
  pub fits : from ≤ to
  pub opens : slice_index text (from - 1) ≡ ascii.quote
  pub closes : slice_index text to ≡ ascii.quote
  pub inner : (k : ℕ) → from ≤ k → k < to → slice_index text k ≡ ascii.quote → ⊥

-- what may be cut out of a text
abbrev pub IsTextPiece : List ℕ → ℕ → ℕ → Type 0
IsTextPiece text from to = IsWordPiece text from to ⊎ IsQuotedPiece text from to
