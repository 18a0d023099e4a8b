-- The tops of a pool: its texts that no other one of them ends with. Records go by their numbers.
--     numbered_text es n          the text of the record of this number, empty where there is none
--     text_of_number es ns j      that of the number at place j
--     AreInOrder es ns            ns are the numbers of all records, in order
--     AreTops es ns               ns are the numbers of the tops, in order
--     Precedes r f                r holds what it ends with rather than f, which ends with it too
use Rattle.std.specs.Prelude.{◌≡◌, ℕ, ◌<◌, ◌≤◌, List, [], length, map, ◌⊎◌, All, Contains}
use Rattle.std.specs.Prelude.{slice_index, slice_index_or}
use Rattle.std.specs.declared.cmp.Ordering.TheVariants.{Less}
use Rattle.resb_pool.specs.Container.{IsTop}
use Rattle.resb_pool.specs.Order.{suffix_cmp}
use Rattle.resb_pool.specs.Records.{EndsWith}
use Rattle.resb_pool.specs.declared.packing.Packing.TheVariants.{Compact}
use Rattle.resb_lent.specs.Inner.Within.{record_bytes}
use Rattle.resb_lent.specs.declared.lent_record.LentRecord.{LentRecord}

-- the text of the record of a number; the empty text where there is none
abbrev pub numbered_text : List LentRecord → ℕ → List ℕ
numbered_text es n = slice_index_or (map record_bytes es) n []

-- the text of the number at a place
abbrev pub text_of_number : List LentRecord → List ℕ → ℕ → List ℕ
text_of_number es ns j = numbered_text es (slice_index ns j)

-- texts stand in a compact file's order from the end
abbrev pub Ascend : List LentRecord → List ℕ → Type 0
Ascend es ns = (i j : ℕ) → i ≤ j → j < length ns
    → suffix_cmp Compact (text_of_number es ns j) (text_of_number es ns i) ≡ Less → ⊥

-- the numbers of all records, in that order of their texts
pub record AreInOrder (es : List LentRecord) (ns : List ℕ) : Type 0 where
  pub within : All (λ n. n < length es) ns
  pub all : (n : ℕ) → n < length es → Contains ns n
  pub ascend : Ascend es ns

-- the numbers of just the records' texts that no other one ends with, in that order
pub record AreTops (es : List LentRecord) (ns : List ℕ) : Type 0 where
  pub sound : (i : ℕ) → i < length ns
      → IsTop (Contains (map record_bytes es)) (text_of_number es ns i)
  pub complete : (r : List ℕ) → IsTop (Contains (map record_bytes es)) r
      → (i : ℕ) × (i < length ns) × (text_of_number es ns i ≡ r)
  pub ascend : Ascend es ns

-- r ends with f, or r comes after f in that order and f doesn't end with it
abbrev pub Precedes : List ℕ → List ℕ → Type 0
Precedes r f = EndsWith r f
    ⊎ ((EndsWith f r → ⊥) × (suffix_cmp Compact f r ≡ Less))
