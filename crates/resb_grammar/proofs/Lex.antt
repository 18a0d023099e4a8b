-- What a byte may begin in a state, as the proofs that a reading is unique go by it.
use Rattle.std.specs.Prelude.{◌≡◌, ℕ, ◌+◌, Bool, ◌||◌, ◌==◌, List, if◌then◌else◌}
use Rattle.resb_grammar.specs.Ascii as ascii
use Rattle.resb_grammar.specs.ByteRuns.{is_word, is_number_start}
use Rattle.resb_grammar.specs.Lexical.{Text, Number}
use Rattle.resb_grammar.specs.GroupTypes.{Kind, GroupType, RootType}
use Rattle.resb_grammar.specs.Token.{Token, a_text, a_number, opening, closing, a_comma, a_type}
use Rattle.resb_grammar.specs.Token.{a_root_type}
use Rattle.resb_grammar.specs.State.{VectorStage, at_start, after_comma, State, named, in_integer}
use Rattle.resb_grammar.specs.State.{in_vector}

-- what is looked for besides strings, braces, commas and types
pub data Mode : Type 0 where
  neither : Mode
  numbers : Mode
  root_types : Mode

abbrev pub vector_mode : VectorStage → Mode
vector_mode at_start = numbers
vector_mode after_comma = numbers
vector_mode _ = neither

abbrev pub mode : State → Mode
mode (named name) = root_types
mode (in_integer o) = numbers
mode (in_vector place ns o) = vector_mode place
mode _ = neither

-- what a byte may begin
pub data Class : Type 0 where
  text_class : Class
  number_class : Class
  open_class : Class
  close_class : Class
  comma_class : Class
  type_class : Class
  root_type_class : Class
  no_class : Class

-- to which class of tokens the byte belongs with which one begins
abbrev pub class_of : ℕ → Class
class_of b =
    if b == ascii.quote || is_word b then text_class
    else if b == ascii.left_brace then open_class
    else if b == ascii.right_brace then close_class
    else if b == ascii.comma then comma_class
    else if b == ascii.colon then type_class
    else no_class

abbrev pub class_in : Mode → ℕ → Class
class_in neither b = class_of b
class_in numbers b = if is_number_start b then number_class else class_of b
class_in root_types b = if b == ascii.colon then root_type_class else class_of b

-- the token of this class that stands there
abbrev pub Lex : Class → List ℕ → ℕ → ℕ → Token → Type 0
Lex text_class text from to t = (s : List ℕ) × Text text from to s × (t ≡ a_text s)
Lex number_class text from to t = (v : ℕ) × Number text from to v × (t ≡ a_number v)
Lex open_class text from to t = (to ≡ from + 1) × (t ≡ opening)
Lex close_class text from to t = (to ≡ from + 1) × (t ≡ closing)
Lex comma_class text from to t = (to ≡ from + 1) × (t ≡ a_comma)
Lex type_class text from to t = (kind : Kind) × GroupType text from to kind × (t ≡ a_type kind)
Lex root_type_class text from to t =
    (fallback : Bool) × RootType text from to fallback × (t ≡ a_root_type fallback)
Lex no_class text from to t = ⊥
