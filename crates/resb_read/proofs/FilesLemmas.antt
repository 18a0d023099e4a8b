-- What is known of a file whose head was checked.
use Rattle.std.proofs.Common.{◌≡◌, ℕ, List, subst}
use Rattle.std.specs.Prelude.{option_map}
use Rattle.resb_pool_bundle.specs.Pool.{pool_in}
use Rattle.resb_read.specs.Files.{whole_in}
use Rattle.resb_read.specs.Manners.{whole_by}
use Rattle.resb_read.specs.Roots.{Whole}
use Rattle.resb_read.specs.declared.file.File.{File}
use Rattle.resb_read.specs.declared.file.Manner.{Manner}
use Rattle.resb_read.specs.declared.file.Manner.TheVariants.{Alone, Beside}
use Rattle.resb_read.proofs.Rooted.{IsLinked, alone_linked}
use Rattle.resb_read.proofs.WithPool.{over_linked}

-- what the words of a file have to do with one another, in whatever manner it is read
pub linked : (m : Manner) (bytes : List ℕ) → IsLinked (whole_by m bytes)
linked Alone bytes = alone_linked bytes
linked (Beside pool) bytes = over_linked (option_map pool_in pool) bytes

-- what is so of a file is so of its bytes in its manner
pub of_bytes : (P : Whole → Type 0) (f : File) (m : Manner) (bytes : List ℕ) → f.manner ≡ m
    → f.bytes.now ≡ bytes → P (whole_in f) → P (whole_by m bytes)
of_bytes P f m bytes manner same h =
    subst (λ n. P (whole_by n bytes)) manner (subst (λ b. P (whole_by f.manner b)) same h)
