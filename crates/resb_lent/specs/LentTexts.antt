-- Where a pool bundle has a text. The block is the pool's, in 16-bit units. (ICU's `uresdata.h`:
-- pool bundles.)
--     IsLentRecord block r at     the text r has a record of the pool, at this unit
--     Holds r s                   s lies in the record of the text r
--     LentText block s i          the text s has this index
--     LendsText block s o         o is that index, or none where there is no such
use Rattle.std.specs.Prelude.{◌≡◌, ℕ, ◌+◌, ◌<◌, ◌≤◌, ◌^◌, List, [], length, take, drop, ◌⊎◌}
use Rattle.std.specs.Prelude.{Option, Some, MatchOption, slice_get}
use Rattle.std.specs.Str.{IsUtf8}
use Rattle.std.specs.declared.cmp.Ordering.TheVariants.{Greater}
use Rattle.resb_format.specs.Units.{size}
use Rattle.resb_pool.specs.Order.{suffix_cmp}
use Rattle.resb_pool.specs.Pool.{record_units}
use Rattle.resb_pool.specs.Records.{IsHeldBy}
use Rattle.resb_pool.specs.declared.packing.Packing.TheVariants.{Plain}

-- a record stands at this unit: the text's marker, its units and 0, all below unit 2^28, since
-- indexes have 28 bits
pub record StandsAt (block : List ℕ) (at : ℕ) (r : List ℕ) : Type 0 where
  pub utf8 : IsUtf8 r
  pub stands : take (size r) (drop at block) ≡ record_units r
  pub near : at + size r ≤ 2 ^ 28

-- from one unit to another, records stand one right behind the other
pub data Reaches (block : List ℕ) : ℕ → ℕ → Type 0 where
  at_end : {at : ℕ} → Reaches block at at
  past : {from to : ℕ} (r : List ℕ) → StandsAt block from r → Reaches block (from + size r) to
      → Reaches block from to

-- the block begins with 0, and from unit 1 on records stand up to one of this text
pub record IsLentRecord (block r : List ℕ) (at : ℕ) : Type 0 where
  pub begins : slice_get block 0 ≡ Some 0
  pub reached : Reaches block 1 at
  pub stands : StandsAt block at r

-- the record's text is s, or it ends with s, which has no marker
abbrev pub Holds : List ℕ → List ℕ → Type 0
Holds r s = (r ≡ s) ⊎ IsHeldBy s r

-- s lies in the greatest record that holds it, in a plain file's order from the end, and in the
-- first one of the same text
pub record LiesAt (block s r : List ℕ) (at : ℕ) : Type 0 where
  pub own : IsLentRecord block r at
  pub holds : Holds r s
  pub greatest : (q : List ℕ) (p : ℕ) → IsLentRecord block q p → Holds q s
      → suffix_cmp Plain q r ≡ Greater → ⊥
  pub first : (p : ℕ) → IsLentRecord block r p → at ≤ p

-- the empty text has index 0, where the block begins with 0; any other's marker and units end where
-- those of its record do
pub data LentText (block : List ℕ) : List ℕ → ℕ → Type 0 where
  lent_empty : slice_get block 0 ≡ Some 0 → LentText block [] 0
  lent_within : {s r : List ℕ} {i at : ℕ} → 0 < length s → LiesAt block s r at
      → i + size s ≡ at + size r → LentText block s i

-- an index is given exactly where the text has one
abbrev pub LendsText : List ℕ → List ℕ → Option ℕ → Type 0
LendsText block s o = MatchOption o ((i : ℕ) → LentText block s i → ⊥) (LentText block s)
