-- What the checks of what a head says of pools answer, and those of the pool that is given.
use Rattle.std.specs.Prelude.{◌≡◌, ℕ, List, Option, Some, None, Result, MatchResult}
use Rattle.resb_format.specs.Error.{refusal_of, first_refusal}
use Rattle.resb_format.specs.Parts.{lent_in}
use Rattle.resb_format.specs.declared.error.ReadingError.{ReadingError}
use Rattle.resb_format.specs.declared.file_blocks.PoolBlocks.{PoolBlocks}
use Rattle.resb_pool_bundle.specs.Checks.{lending_checks, pool_given_checks}
use Rattle.resb_pool_bundle.specs.Pool.{Pool, lent_to}

-- whether a head may say what it says of pools
abbrev pub ReadsLending : List ℕ → {A : Type 0} → Result A ReadingError → Type 0
ReadsLending bytes r =
    MatchResult r (λ _. first_refusal (lending_checks bytes) ≡ None)
    (λ e. first_refusal (lending_checks bytes) ≡ Some (refusal_of e))

-- what a file takes from the pool, where that is the right one
abbrev pub Lends : Option Pool → List ℕ → Result PoolBlocks ReadingError → Type 0
Lends pool bytes r =
    MatchResult r
    (λ l. (first_refusal (pool_given_checks pool bytes) ≡ None)
    × (lent_in l ≡ lent_to pool bytes))
    (λ e. first_refusal (pool_given_checks pool bytes) ≡ Some (refusal_of e))
