-- The records that were found.
--     IsRecordAt block at e       e is a record that stands at this unit
--     ListsRecords block es       the list has just the records from unit 1 on
--     HasPlace e s i              the text s has the unit i in the record e
use Rattle.std.specs.Prelude.{◌≡◌, ℕ, ◌+◌, List, All, Contains, ◌⊎◌}
use Rattle.std.specs.String.{string_bytes}
use Rattle.resb_format.specs.Units.{size}
use Rattle.resb_lent.specs.LentTexts.{StandsAt, Reaches, Holds}
use Rattle.resb_lent.specs.Entries.{pairs}
use Rattle.resb_lent.specs.declared.lent_record.LentRecord.{LentRecord}

-- the record of a text that stands at this unit of the block
pub record IsRecordAt (block : List ℕ) (at : ℕ) (e : LentRecord) : Type 0 where
  pub stands : StandsAt block at (string_bytes e.text)
  pub place : e.at ≡ at
  pub end : e.end ≡ at + size (string_bytes e.text)

-- one that is reached from unit 1 on
pub record IsListed (block : List ℕ) (e : LentRecord) : Type 0 where
  pub reached : Reaches block 1 e.at
  pub own : IsRecordAt block e.at e

-- the list has each record that is reached from unit 1 on, and no other
pub record ListsRecords (block : List ℕ) (es : List LentRecord) : Type 0 where
  pub sound : All (IsListed block) es
  pub complete : (r : List ℕ) (at : ℕ) → Reaches block 1 at → StandsAt block at r
      → Contains (pairs es) (r, at)

-- so far, where the next record would stand at this unit
pub record ListsUpTo (block : List ℕ) (es : List LentRecord) (at : ℕ) : Type 0 where
  pub sound : All (IsListed block) es
  pub reached : Reaches block 1 at
  pub complete : (r : List ℕ) (p : ℕ) → Reaches block 1 p → StandsAt block p r
      → Contains (pairs es) (r, p) ⊎ Reaches block at p

-- the record e has a place for the text s
pub record HasPlace (e : LentRecord) (s : List ℕ) (i : ℕ) : Type 0 where
  pub holds : Holds (string_bytes e.text) s
  pub ends : e.end ≡ e.at + size (string_bytes e.text) → i + size s ≡ e.end
