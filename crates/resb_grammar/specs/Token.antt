-- The tokens of a text, and what each means in it.
use Rattle.std.specs.Prelude.{◌≡◌, ℕ, ◌+◌, Bool, List, slice_index}
use Rattle.resb_grammar.specs.Ascii as ascii
use Rattle.resb_grammar.specs.Lexical.{Text, Number}
use Rattle.resb_grammar.specs.GroupTypes.{Kind, GroupType, RootType}

-- a string, a number, a brace, a comma, a type, or a type of the root
pub data Token : Type 0 where
  a_text : List ℕ → Token
  a_number : ℕ → Token
  opening : Token
  closing : Token
  a_comma : Token
  a_type : Kind → Token
  a_root_type : Bool → Token

-- this token stands between these places
abbrev pub Means : List ℕ → ℕ → ℕ → Token → Type 0
Means text from to (a_text s) = Text text from to s
Means text from to (a_number v) = Number text from to v
Means text from to opening = (slice_index text from ≡ ascii.left_brace) × (to ≡ from + 1)
Means text from to closing = (slice_index text from ≡ ascii.right_brace) × (to ≡ from + 1)
Means text from to a_comma = (slice_index text from ≡ ascii.comma) × (to ≡ from + 1)
Means text from to (a_type kind) = GroupType text from to kind
Means text from to (a_root_type fallback) = RootType text from to fallback
