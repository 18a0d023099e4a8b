-- What is to blame where a record is refused.
--     BlamesAt                what is to blame at the value of a name, under that name
--     BlamesRequired          the same, or the record itself, which lacks a field of this name
--     BlamesFound             the same, where a field may be left out
--     BlamesRecord            the record itself, where no table is read, or its first field that is
--                             refused
-- The first field of several that is to blame is told by `RefusesNext` of `resb_fields`.
use Rattle.std.specs.Prelude.{◌≡◌, ◌⊎◌, ℕ, List, [], Option, Some, None}
use Rattle.resb_diff.specs.Differences.{by_key}
use Rattle.resb_walk.specs.BlockRefusals.{Says}
use Rattle.resb_fields.specs.Fields.{Entry, RefusesField, missing}
use Rattle.resb_read.specs.Places.{Place}
use Rattle.resb_read.specs.Tables.{RefusesTable}
use Rattle.resb_blame.specs.Blamed.{Blamed, IsHere, IsUnder}
use Rattle.resb_blame.specs.Blames.{Blaming}

-- what may be blamed at a field of a name, given where its value stands, if it stands anywhere
abbrev pub BlamingField : Type 1
BlamingField = List ℕ → Option Place → ℕ → ℕ → Blamed → Type 0

-- what may be blamed at fields of these names among these entries
abbrev pub BlamingFields : Type 1
BlamingFields = List (List ℕ) → List Entry → ℕ → ℕ → Blamed → Type 0

-- what is to blame at the value, under the field's name
pub record BlamesAt (blames : Blaming) (name : List ℕ) (p : Place) (left left' : ℕ) (b : Blamed)
    : Type 0 where
  pub inner : Blamed
  pub blamed : blames p left left' inner
  pub under : IsUnder (by_key name) inner b

-- the record lacks the field of this name, and nothing is taken
pub record BlamesMissing (name : List ℕ) (left left' : ℕ) (b : Blamed) : Type 0 where
  pub path : b.path ≡ []
  pub field : b.field ≡ Some name
  pub says : Says missing b.error
  pub kept : left' ≡ left

-- a field that has to be there: what is to blame at its value, or that it is missing
abbrev pub BlamesRequired : Blaming → BlamingField
BlamesRequired blames name (Some p) left left' b = BlamesAt blames name p left left' b
BlamesRequired blames name None left left' b = BlamesMissing name left left' b

-- a field that may be left out: what is to blame at its value
abbrev pub BlamesFound : Blaming → BlamingField
BlamesFound blames name (Some p) left left' b = BlamesAt blames name p left left' b
BlamesFound blames name None left left' b = ⊥

-- no field is to blame where there is none
abbrev pub BlamesNone : BlamingFields
BlamesNone names es left left' b = ⊥

-- the place itself, where no table is read; or a table stands there and is paid for, and one of its
-- fields is to blame with what is left
abbrev pub BlamesRecord : BlamingFields → List (List ℕ) → Blaming
BlamesRecord blames names p left left' b =
    (IsHere b × RefusesTable p left left' b.error) ⊎ RefusesField blames names p left left' b
