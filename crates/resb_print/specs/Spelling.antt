-- How a form of texts spells what differs among the forms.
use Rattle.std.specs.Prelude.{ℕ, List}

-- how a name, a key and a string are written before what follows them
pub record Spelling : Type 0 where
  pub name_on : List ℕ → List ℕ → List ℕ
  pub key_on : List ℕ → List ℕ → List ℕ
  pub piece_on : List ℕ → List ℕ → List ℕ
