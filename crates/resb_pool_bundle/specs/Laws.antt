-- What the laws of this crate say.
--     IsOwnFile bytes         the file has nothing to do with pools
--     OwnFilesAreTheSame      such files are refused, and have their parts, as without this crate
--     OwnFilesDenoteTheSame   they denote what they do where aliases are read
--     FilesPass               the checks let through exactly the pool bundles, and the files that
--                             can be read beside a pool
--     OwnFilesDenoteWithoutOlder      they denote a tree without this crate too where their root
--                             leads to no string of the older form and to no alias, and only there
use Rattle.std.specs.Prelude.{◌≡◌, ◌↔◌, ℕ, ◌<◌, ◌^◌, List, [], ◌∷◌, Option, None, false}
use Rattle.std.specs.Prelude.{◌⊎◌, slice_range}
use Rattle.resb_tree.specs.Tree.{Tree}
use Rattle.resb_format.specs.Parts.{beside_no_pool}
use Rattle.resb_head.specs.File.{parts_of, field_count, Denotes, DenotesWithAliases}
use Rattle.resb_head.specs.HeadChecks.{file_refusal}
use Rattle.resb_pool_bundle.specs.Checks.{pool_refusal, refusal_with}
use Rattle.resb_pool_bundle.specs.Fields.{is_pool, uses_pool}
use Rattle.resb_pool_bundle.specs.FileWith.{IsPoolFile, IsFileWith, DenotesWith}
use Rattle.resb_pool_bundle.specs.Older.{FileReachesOlder}
use Rattle.resb_pool_bundle.specs.Pool.{Pool, parts_with}

-- no check fails exactly of a pool bundle, and exactly of a file that can be read beside the pool
pub record FilesPass : Type 0 where
  pub pools : (bytes : List ℕ) → (pool_refusal bytes ≡ None) ↔ IsPoolFile bytes
  pub files : (pool : Option Pool) (bytes : List ℕ)
      → (refusal_with pool bytes ≡ None) ↔ IsFileWith pool bytes

-- a file of version 2.0 that neither is nor uses a pool bundle, and whose index has fewer than 256
-- words
pub record IsOwnFile (bytes : List ℕ) : Type 0 where
  pub version : slice_range bytes 16 20 ≡ 2 ∷ 0 ∷ 0 ∷ 0 ∷ []
  pub few : field_count bytes < 2 ^ 8
  pub no_pool : is_pool bytes ≡ false
  pub uses_none : uses_pool bytes ≡ false

-- such a file is refused as files without pools are, whatever pool is given, and has the parts of
-- one, beside a pool of which it takes nothing
abbrev pub OwnFilesAreTheSame : Type 0
OwnFilesAreTheSame =
    (pool : Option Pool) (bytes : List ℕ) → IsOwnFile bytes
    → (refusal_with pool bytes ≡ file_refusal bytes)
    × (parts_with pool bytes ≡ beside_no_pool (parts_of bytes))

-- such a file denotes a tree beside a pool, or beside none, exactly where it does so as a file
-- whose aliases and strings of the older form are read
abbrev pub OwnFilesDenoteTheSame : Type 0
OwnFilesDenoteTheSame =
    (pool : Option Pool) (bytes : List ℕ) → IsOwnFile bytes → (t : Tree) (n : ℕ)
    → DenotesWithAliases bytes t n ↔ DenotesWith pool bytes t n

-- where such a file denotes a tree beside a pool, or beside none, its root leads to a string of the
-- older form or to an alias, or it denotes the tree as a file of which neither is read; and it does
-- the latter exactly where it denotes the tree and its root leads to neither
abbrev pub OwnFilesDenoteWithoutOlder : Type 0
OwnFilesDenoteWithoutOlder =
    (pool : Option Pool) (bytes : List ℕ) → IsOwnFile bytes → (t : Tree) (n : ℕ)
    → (DenotesWith pool bytes t n → FileReachesOlder pool bytes ⊎ Denotes bytes t n)
    × (Denotes bytes t n ↔ (DenotesWith pool bytes t n × (FileReachesOlder pool bytes → ⊥)))
