-- A file of whose head a check fails can't be read beside the pool, and any other can.
use Rattle.std.proofs.Common.{ℕ, List, ◌≡◌, Option, Some, None}
use Rattle.resb_format.specs.Error.{Refusal}
use Rattle.resb_pool_bundle.specs.Checks.{refusal_with}
use Rattle.resb_pool_bundle.specs.FileWith.{IsFileWith}
use Rattle.resb_pool_bundle.specs.Pool.{Pool}
use Rattle.resb_pool_bundle.proofs.PassingFiles.{file_is, file_passes}

-- a file that isn't refused can be read
pub passing_is_file : (pool : Option Pool) (bytes : List ℕ) → refusal_with pool bytes ≡ None
    → IsFileWith pool bytes
passing_is_file pool bytes none = file_is pool bytes none

-- a file that is refused can't
pub refused_is_none : (pool : Option Pool) (bytes : List ℕ) (f : Refusal)
    → refusal_with pool bytes ≡ Some f → IsFileWith pool bytes → ⊥
refused_is_none pool bytes f fault file =
    let none = file_passes pool bytes file in absurd (cc)
