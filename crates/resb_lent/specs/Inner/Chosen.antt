-- Which strings may hold one that ends a text of the pool.
--     IsMarked marks s            the mark of s was noted
--     IsChosen marks s d r        r is s, which stands so, or the empty text in its place
--     AreChosen S ds O            O are the strings that were chosen of S, in their places
--     LiesAmong block S O s r     s lies in the record of r among O, which has each of S that may
--                                 hold it and that the pool has no record of
use Rattle.std.specs.Prelude.{◌≡◌, ℕ, ◌<◌, List, [], length, reverse, ◌⊎◌, Contains}
use Rattle.std.specs.Prelude.{Bool, true, false, slice_index_or}
use Rattle.resb_pool.specs.Container.{IsContainer}
use Rattle.resb_pool.specs.Records.{EndsWith}
use Rattle.resb_pool.specs.declared.packing.Packing.TheVariants.{Compact}
use Rattle.resb_lent.specs.LentBeside.{IsLent}
use Rattle.resb_lent.specs.Inner.Marks.{last_mark, is_hit}
use Rattle.resb_lent.specs.declared.texts.Standing.{Standing}
use Rattle.resb_lent.specs.declared.texts.Standing.TheVariants.{Whole, End}

abbrev pub IsMarked : List Bool → List ℕ → Type 0
IsMarked marks s = slice_index_or marks (last_mark 4 0 (reverse s)) false ≡ true

-- the empty text, where the pool has a record of s or s can't end with a marked text
abbrev pub IsChosen : List Bool → List ℕ → Standing → List ℕ → Type 0
IsChosen marks s d r = (r ≡ s) ⊎ ((r ≡ []) × (((j : ℕ) × (d ≡ Whole j))
    ⊎ (is_hit marks 4 0 (reverse s) ≡ false)))

-- by the marks of all texts that end one of the pool's
pub record AreChosen (S : List (List ℕ)) (ds : List Standing) (O : List (List ℕ)) : Type 0 where
  pub marks : List Bool
  pub marked : (i : ℕ) (d : Standing) → i < length S → slice_index_or ds i d ≡ End
      → IsMarked marks (slice_index_or S i [])
  pub len : length O ≡ length S
  pub each : (i : ℕ) (d : Standing) → i < length S
      → IsChosen marks (slice_index_or S i []) (slice_index_or ds i d) (slice_index_or O i [])

-- O are some of the texts S, and the empty one; each that ends with s is there, or the pool has a
-- record of it
pub record AreOthers (block : List ℕ) (S O : List (List ℕ)) (s : List ℕ) : Type 0 where
  pub to : (t : List ℕ) → Contains O t → Contains S t ⊎ (t ≡ [])
  pub from : (t : List ℕ) → Contains S t → EndsWith t s → Contains O t ⊎ IsLent block t

pub record LiesAmong (block : List ℕ) (S O : List (List ℕ)) (s r : List ℕ) : Type 0 where
  pub others : AreOthers block S O s
  pub given : Contains O s
  pub container : IsContainer Compact O s r
