-- Whose keys and texts are lent.
--     lent_keys l                 the pool's keys, in bytes
--     lent_place l k              where the pool has the key k
--     LendsTexts l block          l has the records of this block, in the order from the end
use Rattle.std.specs.Prelude.{◌≡◌, ℕ, List, Option, Some, All, Contains, slice_get}
use Rattle.std.specs.Bool.{MatchBool}
use Rattle.std.specs.List.Sorted.{IsSortedBy}
use Rattle.std.specs.Ordering.{is_lt}
use Rattle.resb_pool.specs.Plan.{at_text}
use Rattle.resb_lent.specs.LentTexts.{IsLentRecord}
use Rattle.resb_lent.specs.Entries.{IsLentEntry, pairs, entry_cmp}
use Rattle.resb_lent.specs.Inner.Tops.{AreTops}
use Rattle.resb_lent.specs.declared.keys.LentKeys.{LentKeys}
use Rattle.resb_lent.specs.declared.texts.LentTexts.{LentTexts}

-- the pool's keys, in bytes
abbrev pub lent_keys : LentKeys → List ℕ
lent_keys l = l.keys.now

-- where the pool has a key, as it was noted
abbrev pub lent_place : LentKeys → List ℕ → Option ℕ
lent_place l k = at_text l.places k

-- whether the block begins with 0, just the records of the block, sorted, and which are its tops
pub record LendsTexts (l : LentTexts) (block : List ℕ) : Type 0 where
  pub begins : MatchBool l.lends (slice_get block 0 ≡ Some 0) (slice_get block 0 ≡ Some 0 → ⊥)
  pub sound : All (IsLentEntry block) l.records.items
  pub complete : (r : List ℕ) (at : ℕ) → IsLentRecord block r at
      → Contains (pairs l.records.items) (r, at)
  pub sorted : IsSortedBy (λ x y. is_lt (entry_cmp x y)) l.records.items
  pub tops : AreTops l.records.items l.tops.items
