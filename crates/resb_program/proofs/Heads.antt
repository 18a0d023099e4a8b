-- A file's head that is refused has the file refused.
use Rattle.std.proofs.Common.{ℕ, List, ◌≡◌, Option, Some, Err}
use Rattle.std.specs.Prelude.{option_map}
use Rattle.resb_format.specs.Error.{Refusal, refusal_of}
use Rattle.resb_pool_bundle.specs.Checks.{head_refusal, head_checks, refusal_with}
use Rattle.resb_pool_bundle.specs.Checks.{pool_given_checks}
use Rattle.resb_pool_bundle.specs.Pool.{Pool, pool_in}
use Rattle.resb_pool_bundle.specs.declared.pool_bundle.PoolBundle.{PoolBundle}
use Rattle.resb_pool_bundle.proofs.Steps.{earlier_refusal}
use Rattle.resb_program.specs.Files.{LacksHead, LacksPool, OpensBeside}
use Rattle.resb_program.specs.declared.errors.FileError.{FileError}
use Rattle.resb_program.specs.declared.errors.FileError.TheVariants.{UsesPool, Larger, LongKeys}
use Rattle.resb_program.specs.declared.errors.FileError.TheVariants.{Reading}

-- a refusal of the head is one of the file, whatever pool is given
refused : (pool : Option Pool) (bytes : List ℕ) (f : Refusal) → head_refusal bytes ≡ Some f
    → refusal_with pool bytes ≡ Some f
unfolding head_refusal refusal_with
refused pool bytes f = earlier_refusal (head_checks bytes) (pool_given_checks pool bytes) f

-- a head that is refused doesn't say that a pool bundle is lacking
unsaid : (pool : Option Pool) (bytes : List ℕ) (f : Refusal) → head_refusal bytes ≡ Some f
    → LacksPool pool bytes → ⊥
unsaid pool bytes f h lacks = let passes = lacks.passes in absurd (cc)

-- so opening answers why there is no head
pub unopened : (pool : Option PoolBundle) (bytes : List ℕ) (e : FileError)
    → LacksHead (option_map pool_in pool) bytes e → OpensBeside pool bytes (Err e)
unopened pool bytes UsesPool h = h
unopened pool bytes (Reading e) h =
    let given = option_map pool_in pool in
    (unsaid given bytes (refusal_of e) h, refused given bytes (refusal_of e) h)
unopened pool bytes (Larger n limit) h = h
unopened pool bytes (LongKeys n limit) h = h
