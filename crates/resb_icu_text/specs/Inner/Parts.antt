-- The parts of a string, one quoted piece or unquoted string after another.
use Rattle.std.specs.Prelude.{◌≡◌, ◌⊎◌, ◌==◌, ◌&&◌, ℕ, Bool, true, List, [], ◌∷◌, slice_index}
use Rattle.std.specs.Prelude.{if◌then◌else◌}
use Rattle.resb_grammar.specs.Ascii as ascii
use Rattle.resb_icu_grammar.specs.Pieces.{QuotedPiece}
use Rattle.resb_icu_grammar.specs.Unquoted.{Unquoted, begins_unquoted}

-- one quoted piece, or one unquoted string
pub data Single (text : List ℕ) (from to : ℕ) (bytes : List ℕ) : Type 0 where
  a_piece : QuotedPiece text from to bytes → Single text from to bytes
  a_word : Unquoted text from to bytes → Single text from to bytes

-- a part of a string seems to begin there: a quote stands there, or an unquoted string begins
abbrev pub Begun : List ℕ → ℕ → Type 0
Begun text at = (slice_index text at ≡ ascii.quote) ⊎ (begins_unquoted text at ≡ true)

-- quoted pieces begin at these two places
abbrev pub are_pieces : List ℕ → ℕ → ℕ → Bool
are_pieces text at next =
    slice_index text at == ascii.quote && slice_index text next == ascii.quote

-- what stands between the single ones that begin at two places: nothing between pieces, else a blank
abbrev pub gap : List ℕ → ℕ → ℕ → List ℕ
gap text at next = if are_pieces text at next then [] else ascii.space ∷ []
