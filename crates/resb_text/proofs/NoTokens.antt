-- Where no token stands that may stand in a state: none of its kind stands there, or none of that
-- kind leads on.
use Rattle.std.proofs.Common.{◌≡◌, ℕ, Bool, List, Some}
use Rattle.std.specs.Prelude.{slice_index}
use Rattle.resb_grammar.specs.declared.group_kind.Kind.{Kind}
use Rattle.resb_grammar.specs.Ascii as ascii
use Rattle.resb_grammar.specs.Lexical.{Text, Number}
use Rattle.resb_grammar.specs.GroupTypes.{GroupType, RootType}
use Rattle.resb_grammar.specs.Machine.{Token, a_text, a_number, opening, closing, a_comma, a_type}
use Rattle.resb_grammar.specs.Machine.{a_root_type, State, next}
use Rattle.resb_grammar.specs.Token.{Means}
use Rattle.resb_grammar.specs.Stuck.{NoToken}
use Rattle.resb_grammar.proofs.Moves.{move_means}

-- by each kind: a string, a number, `{`, `}`, a comma, a type, a type of the root
pub no_token : (text : List ℕ) (at : ℕ) (s : State)
    → ((to : ℕ) (w : List ℕ) (u : State) → Text text at to w → next s (a_text w) ≡ Some u → ⊥)
    → ((to v : ℕ) (u : State) → Number text at to v → next s (a_number v) ≡ Some u → ⊥)
    → ((u : State) → slice_index text at ≡ ascii.left_brace → next s opening ≡ Some u → ⊥)
    → ((u : State) → slice_index text at ≡ ascii.right_brace → next s closing ≡ Some u → ⊥)
    → ((u : State) → slice_index text at ≡ ascii.comma → next s a_comma ≡ Some u → ⊥)
    → ((to : ℕ) (k : Kind) (u : State) → GroupType text at to k → next s (a_type k) ≡ Some u → ⊥)
    → ((to : ℕ) (f : Bool) (u : State) → RootType text at to f → next s (a_root_type f) ≡ Some u
    → ⊥)
    → NoToken text at s
no_token text at s word number left right comma type root to u m =
    go m.token (move_means text at to s u m) m.moves
  where
    go : (t : Token) → Means text at to t → next s t ≡ Some u → ⊥
    go (a_text w) m e = word to w u m e
    go (a_number v) m e = number to v u m e
    go opening m e = left u m.0 e
    go closing m e = right u m.0 e
    go a_comma m e = comma u m.0 e
    go (a_type k) m e = type to k u m e
    go (a_root_type f) m e = root to f u m e
