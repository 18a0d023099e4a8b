-- Where a reading fails, and how many bytes it has made before.
use Rattle.std.specs.Prelude.{◌≡◌, ◌⊎◌, ℕ, List}
use Rattle.resb_grammar.specs.Machine.{State}
use Rattle.resb_grammar.specs.Stuck.{NoToken, Stuck}
use Rattle.resb_grammar.specs.Limit.{Makes}
use Rattle.resb_grammar.specs.declared.limit.Weights.{Weights}
use Rattle.resb_text.specs.Refusal.{want_of_memory}
use Rattle.resb_text.specs.declared.error.TextParserError.{TextParserError}

-- a reading that has made so many bytes by these weights gets stuck at the error's place, where its
-- item was expected, and no token may stand there
pub record StuckAfter (w : Weights) (text : List ℕ) (bytes : ℕ) (e : TextParserError) : Type 0
  where
    pub state : State
    pub made : Makes w text bytes e.position state
    pub none : NoToken text e.position state
    pub stuck : Stuck text e.position e.expected

-- memory was wanted, or a reading that has made so many bytes gets stuck so
abbrev pub FailsAfter : Weights → List ℕ → ℕ → TextParserError → Type 0
FailsAfter w text bytes e = (e ≡ want_of_memory) ⊎ StuckAfter w text bytes e

-- a reading gets stuck so before anything is made, whatever the weights
abbrev pub HeaderFails : List ℕ → TextParserError → Type 0
HeaderFails text e = (w : Weights) → StuckAfter w text 0 e
