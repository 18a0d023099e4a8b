-- Where a pool bundle has a text of a compact file, which shares its strings with the pool's as one
-- set. The block is the pool's, in 16-bit units; S are the file's strings. (ICU's `reslist.cpp`:
-- shared suffixes beside a pool bundle.)
--     IsTextBeside block S r      r is a text of the file or of the pool
--     MayHoldBeside block S s r   r may hold the text s, which it ends with
--     LentBeside block S s i      the text s has this index
--     LentTextBy way block S s i  the same of a file that is packed this way
--     LendsTextBy way block S s o     o is that index, or none where there is no such
use Rattle.std.specs.Prelude.{◌≡◌, ℕ, ◌+◌, ◌<◌, ◌≤◌, List, [], length, ◌⊎◌, Contains}
use Rattle.std.specs.Prelude.{Option, Some, MatchOption, slice_get}
use Rattle.std.specs.declared.cmp.Ordering.TheVariants.{Greater}
use Rattle.resb_format.specs.Units.{size}
use Rattle.resb_pool.specs.Container.{IsTop}
use Rattle.resb_pool.specs.Order.{suffix_cmp}
use Rattle.resb_pool.specs.declared.packing.Packing.{Packing}
use Rattle.resb_pool.specs.declared.packing.Packing.TheVariants.{Plain, Compact}
use Rattle.resb_lent.specs.LentTexts.{IsLentRecord, Holds, LentText}

-- the pool has a record of the text r
abbrev pub IsLent : List ℕ → List ℕ → Type 0
IsLent block r = (at : ℕ) × IsLentRecord block r at

-- r is one of the file's strings, or the pool has a record of it
abbrev pub IsTextBeside : List ℕ → List (List ℕ) → List ℕ → Type 0
IsTextBeside block S r = Contains S r ⊎ IsLent block r

-- the pool's record of a text may hold just this text, unless it's a top of the texts of the file
-- and of the pool; such a top may hold each text that it ends with
abbrev pub MayHoldBeside : List ℕ → List (List ℕ) → List ℕ → List ℕ → Type 0
MayHoldBeside block S s r = (IsLent block r × (r ≡ s)) ⊎ IsTop (IsTextBeside block S) r

-- Of what may hold s, be it of the file or of the pool, the greatest in a compact file's order from
-- the end is a record of the pool, the first one of its text: s lies there.
pub record LiesBeside (block : List ℕ) (S : List (List ℕ)) (s r : List ℕ) (at : ℕ) : Type 0 where
  pub own : IsLentRecord block r at
  pub may : MayHoldBeside block S s r
  pub holds : Holds r s
  pub greatest : (q : List ℕ) → MayHoldBeside block S s q → Holds q s
      → suffix_cmp Compact q r ≡ Greater → ⊥
  pub first : (p : ℕ) → IsLentRecord block r p → at ≤ p

-- the empty text has index 0, where the block begins with 0; any other's marker and units end where
-- those of its record do
pub data LentBeside (block : List ℕ) (S : List (List ℕ)) : List ℕ → ℕ → Type 0 where
  beside_empty : slice_get block 0 ≡ Some 0 → LentBeside block S [] 0
  beside_within : {s r : List ℕ} {i at : ℕ} → 0 < length s → LiesBeside block S s r at
      → i + size s ≡ at + size r → LentBeside block S s i

-- the text s of the file's strings S has this index in the pool
abbrev pub LentTextBy : Packing → List ℕ → List (List ℕ) → List ℕ → ℕ → Type 0
LentTextBy Plain block S s i = LentText block s i
LentTextBy Compact block S s i = LentBeside block S s i

-- an index is given exactly where the text has one
abbrev pub LendsTextBy : Packing → List ℕ → List (List ℕ) → List ℕ → Option ℕ → Type 0
LendsTextBy way block S s o =
    MatchOption o ((i : ℕ) → LentTextBy way block S s i → ⊥) (LentTextBy way block S s)
