-- A file that is read lacks no pool bundle.
use Rattle.std.proofs.Common.{ℕ, List, ◌≡◌, Option, Some, None}
use Rattle.resb_pool_bundle.specs.Checks.{head_refusal, head_checks, refusal_with}
use Rattle.resb_pool_bundle.specs.Checks.{pool_given_checks}
use Rattle.resb_pool_bundle.specs.Pool.{Pool}
use Rattle.resb_pool_bundle.proofs.Steps.{later_refusal}
use Rattle.resb_program.specs.Files.{LacksPool}

-- a file that passes each check beside what is given lacks no pool bundle
pub passes_given : (pool : Option Pool) (bytes : List ℕ) → refusal_with pool bytes ≡ None
    → LacksPool pool bytes → ⊥
unfolding head_refusal refusal_with pool_given_checks
passes_given None bytes h lacks =
    let later = later_refusal (head_checks bytes) (pool_given_checks None bytes) lacks.passes in
    let uses = lacks.uses in absurd (cc)
passes_given (Some pool) bytes h lacks = let none = lacks.none in absurd (cc)
