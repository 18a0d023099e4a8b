-- The readings of a text, token by token.
use Rattle.std.specs.Prelude.{◌≡◌, ℕ, suc, List, Some}
use Rattle.resb_grammar.specs.Lexical.{Skip}
use Rattle.resb_grammar.specs.Token.{Token, Means}
use Rattle.resb_grammar.specs.State.{State, start}
use Rattle.resb_grammar.specs.Next.{next}

-- a token that may stand in this state stands there, and leads to that state
pub record Move (text : List ℕ) (from : ℕ) (s : State) (to : ℕ) (u : State) : Type 0 where
  pub token : Token
  pub means : Means text from to token
  pub moves : next s token ≡ Some u

-- the same, with the discardable text after it
pub record TokenStep (text : List ℕ) (from : ℕ) (s : State) (to : ℕ) (u : State) : Type 0 where
  pub ends : ℕ
  pub move : Move text from s ends u
  pub after : Skip text ends to

-- n tokens lead to this place and state
pub data Path (text : List ℕ) : ℕ → ℕ → State → Type 0 where
  begun : (at : ℕ) → Skip text 0 at → Path text 0 at start
  went : (n from to : ℕ) (s u : State) → Path text n from s → TokenStep text from s to u
      → Path text (suc n) to u

-- a reading comes to this place in this state
pub record At (text : List ℕ) (at : ℕ) (s : State) : Type 0 where
  pub tokens : ℕ
  pub path : Path text tokens at s
