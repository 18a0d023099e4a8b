-- What the words behind the program's name ask for.
use Rattle.std.specs.Prelude.{◌≡◌, ◌≢◌, ℕ, List, [], ◌∷◌, Option, Some, None, codes}
use Rattle.resb_program.specs.declared.command.Command.{Command}
use Rattle.resb_program.specs.declared.command.Command.TheVariants.{Stream, Compile, Check}

-- the words `compile`, IN and OUT
abbrev pub compile_words : List ℕ → List ℕ → List (List ℕ)
compile_words input output = codes "compile" ∷ input ∷ output ∷ []

-- the words `check` and IN
abbrev pub check_words : List ℕ → List (List ℕ)
check_words input = codes "check" ∷ input ∷ []

-- no words; `compile IN OUT`; `check IN`; or none of these
abbrev pub Asks : List (List ℕ) → Option Command → Type 0
Asks words (Some Stream) = words ≡ []
Asks words (Some (Compile input output)) = words ≡ compile_words input.now output.now
Asks words (Some (Check input)) = words ≡ check_words input.now
Asks words None =
    (words ≢ []) × ((i o : List ℕ) → words ≢ compile_words i o)
    × ((i : List ℕ) → words ≢ check_words i)
