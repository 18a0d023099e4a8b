-- The hex digits that a string says.
use Rattle.std.specs.Prelude.{◌≡◌, ℕ, Bool, true, List, ◌∷◌, length, Some, None}
use Rattle.std.specs.List.{list_all}
use Rattle.resb_grammar.specs.Group.{is_hex}
use Rattle.resb_icu_grammar.specs.Groups.{spaced_bytes, digits_of}
use Rattle.resb_icu_grammar.specs.Pieces.{QuotedBytes}
use Rattle.resb_icu_grammar.specs.Unquoted.{UnquotedRow}
use Rattle.resb_icu_text.specs.Inner.Found.{IsFound}
use Rattle.resb_icu_text.specs.declared.strings.Found.{Found}

-- each of these bytes is a hex digit
abbrev pub are_digits : List ℕ → Bool
are_digits s = list_all is_hex s

-- of what a piece says up to its closing quote a hex digit is the first, and the rest goes on at
-- this place
pub record DigitAt (text : List ℕ) (last : ℕ) (bytes : List ℕ) (to : ℕ) : Type 0 where
  pub digit : ℕ
  pub rest : List ℕ
  pub whole : bytes ≡ digit ∷ rest
  pub is_digit : is_hex digit ≡ true
  pub on : QuotedBytes text to last rest

-- a string that stands there says pairs of hex digits, for so many bytes
abbrev pub SaysPairs : List ℕ → ℕ → Found → ℕ → Type 0
SaysPairs text from f n =
    (is : IsFound text from f)
    → (bytes : List ℕ) × (digits_of is.string ≡ Some bytes) × (length bytes ≡ n)

-- it says no such pairs
abbrev pub SaysNone : List ℕ → ℕ → Found → Type 0
SaysNone text from f = (is : IsFound text from f) → digits_of is.string ≡ None

-- the unquoted strings in a row between these places say pairs of hex digits, for so many bytes
abbrev pub RowSaysPairs : List ℕ → ℕ → ℕ → ℕ → Type 0
RowSaysPairs text from end n =
    (said : List ℕ) → UnquotedRow text from end said
    → (bytes : List ℕ) × (spaced_bytes said ≡ Some bytes) × (length bytes ≡ n)

-- they say no such pairs
abbrev pub RowSaysNone : List ℕ → ℕ → ℕ → Type 0
RowSaysNone text from end =
    (said : List ℕ) → UnquotedRow text from end said → spaced_bytes said ≡ None
