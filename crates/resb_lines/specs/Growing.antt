-- What is promised of how a form of texts spells keys and strings.
use Rattle.std.specs.Prelude.{◌≤◌, ◌+◌, ℕ, List, length}
use Rattle.resb_print.specs.Spelling.{Spelling}

-- keys and strings are no shorter as they are spelled
pub record Grows (f : Spelling) : Type 0 where
  pub keys : (k rest : List ℕ) → length k + length rest ≤ length (f.key_on k rest)
  pub pieces : (s rest : List ℕ) → length s ≤ length (f.piece_on s rest)
