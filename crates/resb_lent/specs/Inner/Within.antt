-- A text in the first record of another one, and the texts of a pool as a list.
--     NoneHolds block r s         the pool has no record of r in which s lies
--     StandsWithin block r s i    s stands at unit i, in the first record of r
--     lent_list l                 the texts of the pool's records
use Rattle.std.specs.Prelude.{◌≡◌, ℕ, ◌+◌, ◌≤◌, List, map}
use Rattle.std.specs.String.{string_bytes}
use Rattle.resb_format.specs.Units.{size}
use Rattle.resb_lent.specs.LentTexts.{IsLentRecord, Holds}
use Rattle.resb_lent.specs.declared.lent_record.LentRecord.{LentRecord}
use Rattle.resb_lent.specs.declared.texts.LentTexts.{LentTexts}

abbrev pub NoneHolds : List ℕ → List ℕ → List ℕ → Type 0
NoneHolds block r s = (at : ℕ) → IsLentRecord block r at → Holds r s → ⊥

pub record StandsWithin (block r s : List ℕ) (i : ℕ) : Type 0 where
  pub at : ℕ
  pub own : IsLentRecord block r at
  pub holds : Holds r s
  pub first : (p : ℕ) → IsLentRecord block r p → at ≤ p
  pub place : i + size s ≡ at + size r

abbrev pub record_bytes : LentRecord → List ℕ
record_bytes e = string_bytes e.text

-- in the order in which they are held
abbrev pub lent_list : LentTexts → List (List ℕ)
lent_list l = map record_bytes l.records.items
