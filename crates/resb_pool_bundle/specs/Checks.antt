-- The checks of the head of a file of any version, in their order, and what is answered for the
-- first that fails. (ICU's `udata.h`, `ucmndata.h` and `uresdata.h`.)
--     head_refusal bytes          for a head of version 1.1 to 3.0
--     pool_refusal bytes          for a pool bundle
--     refusal_with pool bytes     for a file beside the pool bundle that is given
use Rattle.std.specs.Prelude.{ℕ, ◌+◌, ◌*◌, ◌==◌, ◌&&◌, ◌||◌, min, List, [], ◌∷◌, ◌++◌, length, drop}
use Rattle.std.specs.Prelude.{Bool, not, false, nat_le, nat_lt, nat_eq, Option, Some, None, is_some}
use Rattle.std.specs.Prelude.{slice_index, codes, unwrap_or}
use Rattle.resb_format.specs.Error.{Refusal, invalid, unsupported, end_of_input, first_refusal}
use Rattle.resb_head.specs.File.{body_of, keys_end}
use Rattle.resb_head.specs.HeadChecks.{header_checks, character_checks}
use Rattle.resb_pool_bundle.specs.Fields.{major, index_length, is_pool, uses_pool, checksum_in}
use Rattle.resb_pool_bundle.specs.Fields.{block_end_in, limit_in, short_limit_in}
use Rattle.resb_pool_bundle.specs.Pool.{Pool}

-- the checks of what is supported, in their order, in the representation info: every version is,
-- but 1.0
unfoldable pub version_checks : List ℕ → List (Bool × Refusal)
version_checks info =
    character_checks info
    ++ (
      nat_le 2 (slice_index info 12) || nat_le 1 (slice_index info 13),
      unsupported (codes "format version 1.0 is not supported"),
    )
    ∷ []

-- the checks of the index, in their order: it lies inside the body, and so do the keys and, behind
-- them, the 16-bit block, by ends that are in words
unfoldable pub size_checks : List ℕ → List (Bool × Refusal)
size_checks bytes =
    let size = length (body_of bytes) in
    (nat_le 8 size, end_of_input)
    ∷ (nat_le 5 (index_length bytes), invalid (codes "invalid index field count"))
    ∷ (nat_le (4 * (1 + min (index_length bytes) 8)) size, end_of_input)
    ∷ (nat_le (4 * keys_end bytes) size, end_of_input)
    ∷ (
      nat_lt (major bytes) 2 || nat_le 7 (index_length bytes),
      invalid (codes "offset to the end of 16-bit data not specified"),
    )
    ∷ (
      nat_le (keys_end bytes) (block_end_in bytes) && nat_le (4 * block_end_in bytes) size,
      end_of_input,
    )
    ∷ []

-- the checks of what a head says of pools, in their order: a pool bundle, and a file that uses one,
-- has a checksum, and no other file has strings in a pool
unfoldable pub lending_checks : List ℕ → List (Bool × Refusal)
lending_checks bytes = (
  not (is_pool bytes || uses_pool bytes) || is_some (checksum_in bytes),
  invalid (codes "pool checksum not specified"),
)
    ∷ (
      uses_pool bytes || (limit_in bytes == 0 && short_limit_in bytes == 0),
      invalid (codes "pool strings without a pool bundle"),
    )
    ∷ []

-- all checks of a head, in their order; a header that is longer than the file leaves no body
unfoldable pub head_checks : List ℕ → List (Bool × Refusal)
head_checks bytes =
    header_checks false bytes
    ++ (version_checks (drop 4 bytes) ++ (size_checks bytes ++ lending_checks bytes))

-- the first check of a head that fails
unfoldable pub head_refusal : List ℕ → Option Refusal
head_refusal bytes = first_refusal (head_checks bytes)

-- the checks of a pool bundle: its head, that it is one, and that its keys begin behind its index
unfoldable pub pool_checks : List ℕ → List (Bool × Refusal)
pool_checks bytes =
    head_checks bytes
    ++ (is_pool bytes, invalid (codes "file is not a pool bundle"))
    ∷ (nat_le (1 + index_length bytes) (keys_end bytes), end_of_input)
    ∷ []

-- the first check of a pool bundle that fails
unfoldable pub pool_refusal : List ℕ → Option Refusal
pool_refusal bytes = first_refusal (pool_checks bytes)

-- a file that uses a pool is given one, and the right one; to other files it doesn't matter
unfoldable pub pool_given_checks : Option Pool → List ℕ → List (Bool × Refusal)
pool_given_checks None bytes =
    (not (uses_pool bytes), unsupported (codes "file uses a pool bundle")) ∷ []
pool_given_checks (Some pool) bytes = (
  not (uses_pool bytes) || nat_eq (unwrap_or (checksum_in bytes) 0) pool.checksum,
  invalid (codes "pool bundle has another checksum"),
)
    ∷ []

-- the first check that fails of a file beside the pool bundle that is given
unfoldable pub refusal_with : Option Pool → List ℕ → Option Refusal
refusal_with pool bytes = first_refusal (head_checks bytes ++ pool_given_checks pool bytes)
