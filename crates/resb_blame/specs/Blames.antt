-- What is to blame where lists and maps are refused, and types that are refused as a whole.
--     BlamesWhole             the place itself
--     BlamesSeq, BlamesMap    no list or table, or what is to blame at the first part that is
--                             refused, under its number or its key
-- Each gives the budget's rest before and after, as `refuses` does, and is built of the same words.
use Rattle.std.specs.Prelude.{◌≡◌, ◌+◌, ◌⊎◌, ℕ, List, ◌∷◌, ◌++◌, None, length}
use Rattle.resb_diff.specs.Differences.{by_key, by_number}
use Rattle.resb_format.specs.declared.error.ReadingError.{ReadingError}
use Rattle.resb_fields.specs.Fields.{Entry}
use Rattle.resb_read.specs.Places.{Place}
use Rattle.resb_read.specs.Leaves.{CountsOf, ReadsKey}
use Rattle.resb_read.specs.PlaceRefusals.{members_refusal_from, entries_refusal_from}
use Rattle.resb_read.specs.Reading.{Lacks}
use Rattle.resb_read.specs.RefusedReadings.{RefusesAs, RefusesThere, RefusesOne, RefusesInside}
use Rattle.resb_read.specs.Sequences.{members_at, entries_at, CountsEach, CountsEntry}
use Rattle.resb_read.specs.Tables.{IsNamed}
use Rattle.resb_blame.specs.Blamed.{Blamed, IsHere, IsUnder}

-- what may be blamed at a place, with so much left before and after
abbrev pub Blaming : Type 1
Blaming = Place → ℕ → ℕ → Blamed → Type 0

-- the place itself, where the type is refused
abbrev pub BlamesWhole : (Place → ℕ → Type 0) → (Place → ℕ → ℕ → ReadingError → Type 0) → Blaming
BlamesWhole counts refuses p left left' b =
    IsHere b × RefusesThere counts refuses p left left' b.error

module _ (counts : Place → ℕ → Type 0) (blames : Blaming) where
  -- the places before one have their counts, and this one is to blame with what they leave, under
  -- its number
  pub record BlamesOne (places : List Place) (left left' : ℕ) (b : Blamed) : Type 0 where
    pub done : List Place
    pub at : Place
    pub after : List Place
    pub spent : ℕ
    pub here : ℕ
    pub inner : Blamed
    pub are : places ≡ done ++ at ∷ after
    pub counted : CountsEach counts done spent
    pub paid : here + spent ≡ left
    pub blamed : blames at here left' inner
    pub under : IsUnder (by_number (length done)) inner b

  -- the place itself, where no list is read; or what is to blame at the first member that is
  -- refused
  abbrev pub BlamesSeq : Blaming
  BlamesSeq p left left' b =
      (IsHere b × (members_at p ≡ None ⊎ left ≡ 0)
      × RefusesAs members_refusal_from p left left' b.error)
      ⊎ RefusesInside (members_at p) BlamesOne left left' b

-- what is to blame at an entry's value, under the entry's key; or the table itself, for the same
-- error, where no text is read of the key
abbrev pub IsUnderKey : Entry → Blamed → Blamed → Type 0
IsUnderKey e inner b =
    ((name : List ℕ) × IsNamed name e × IsUnder (by_key name) inner b)
    ⊎ (Lacks (CountsOf ReadsKey e.0) 0 × IsHere b × (b.error ≡ inner.error))

module _ (ck : Place → ℕ → Type 0) (fk : Place → ℕ → ℕ → ReadingError → Type 0)
    (cv : Place → ℕ → Type 0) (bv : Blaming) where
  -- the key has its count, and the value is to blame with what the key leaves
  pub record BlamesValue (e : Entry) (left left' : ℕ) (b : Blamed) : Type 0 where
    pub spent : ℕ
    pub here : ℕ
    pub inner : Blamed
    pub counted : ck e.0 spent
    pub paid : here + spent ≡ left
    pub blamed : bv e.1 here left' inner
    pub under : IsUnderKey e inner b

  -- the table itself, where an entry's key is refused; or what is to blame at its value
  abbrev pub BlamesEntry : Entry → ℕ → ℕ → Blamed → Type 0
  BlamesEntry e left left' b =
      (IsHere b × RefusesThere ck fk e.0 left left' b.error) ⊎ BlamesValue e left left' b

  -- the place itself, where no table is read; or what is to blame at the first entry that is
  -- refused
  abbrev pub BlamesMap : Blaming
  BlamesMap p left left' b =
      (IsHere b × (entries_at p ≡ None ⊎ left ≡ 0)
      × RefusesAs entries_refusal_from p left left' b.error)
      ⊎ RefusesInside (entries_at p) (RefusesOne (CountsEntry ck cv) BlamesEntry) left left' b
