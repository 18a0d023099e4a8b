-- What the fields of a record are read from, their counts, and why they are refused.
--     ReadsRequired               a field that has to be there
--     ReadsOr                     a field with a default, where it may be left out
--     ReadsNone, ReadsNext        no field; a field at the last entry of its name, and those
--                                 after it
--     ReadsRecord                 a table, and what is made of its fields; it counts as one, and
--                                 each of its entries as one, besides what the fields take
--     missing                     what is said of a field that has to be there and isn't
--     RefusesNext                 the first field that is refused, by its name, with an error or
--                                 with what is to blame
--     RefusesRecord               no table, or the first field that is refused
-- A field that may be left out is read as `ReadsFound` of the reader says.
use Rattle.std.specs.Prelude.{◌≡◌, ◌+◌, ◌⊎◌, ℕ, List, [], ◌∷◌, Option, Some, None, length, codes}
use Rattle.resb_format.specs.Error.{Refusal}
use Rattle.resb_format.specs.declared.error.ErrorKind.TheVariants.{Unknown}
use Rattle.resb_format.specs.declared.error.ReadingError.{ReadingError}
use Rattle.resb_walk.specs.BlockRefusals.{Says}
use Rattle.resb_read.specs.Places.{Place}
use Rattle.resb_read.specs.Sequences.{entries_at}
use Rattle.resb_read.specs.RefusedReadings.{RefusesThere, RefusesBehind}
use Rattle.resb_read.specs.Tables.{last_named, RefusesTable}

-- the places of a key and its value
abbrev pub Entry : Type 0
Entry = Place × Place

-- there is a value, and it is read as the field
abbrev pub ReadsRequired : {X : Type 0} → (Place → X → ℕ → Type 0) → Option Place → X → ℕ → Type 0
ReadsRequired reads (Some p) x n = reads p x n
ReadsRequired reads None x n = ⊥

-- there is a value, and some field is read of it, with this count
abbrev pub CountsRequired : (Place → ℕ → Type 0) → Option Place → ℕ → Type 0
CountsRequired counts (Some p) n = counts p n
CountsRequired counts None n = ⊥

-- a field that has to be there isn't
abbrev pub missing : Refusal
missing = (Unknown, codes "field missing")

-- there is no value, or no field is read of it
abbrev pub RefusesRequired : (Place → ℕ → Type 0) → (Place → ℕ → ℕ → ReadingError → Type 0)
    → Option Place → ℕ → ℕ → ReadingError → Type 0
RefusesRequired counts refuses (Some p) left left' e = RefusesThere counts refuses p left left' e
RefusesRequired counts refuses None left left' e = Says missing e × (left' ≡ left)

-- there is no value, and the field is a default, which costs nothing; or it is read of the value
abbrev pub ReadsOr : {X : Type 0} → (X → Type 0) → (Place → X → ℕ → Type 0) → Option Place → X → ℕ
    → Type 0
ReadsOr default reads None x n = default x × (n ≡ 0)
ReadsOr default reads (Some p) x n = reads p x n

-- no field more, and no name more
abbrev pub ReadsNone : List (List ℕ) → ℕ → Type 0
ReadsNone names n = (names ≡ []) × (n ≡ 0)

-- the field of the first name is read at the last entry of that name, and then the others
abbrev pub ReadsNext : {X Y : Type 0} → (Option Place → X → ℕ → Type 0)
    → (List (List ℕ) → List Entry → Y → ℕ → Type 0) → List (List ℕ) → List Entry → X → Y → ℕ
    → Type 0
ReadsNext first later [] es x y n = ⊥
ReadsNext first later (name ∷ names) es x y n =
    (a : ℕ) × (b : ℕ) × first (last_named name es) x a × later names es y b × (n ≡ a + b)

-- some field of the first name is read, and then some others
abbrev pub CountsNext : (Option Place → ℕ → Type 0)
    → (List (List ℕ) → List Entry → ℕ → Type 0) → List (List ℕ) → List Entry → ℕ → Type 0
CountsNext first later [] es n = ⊥
CountsNext first later (name ∷ names) es n =
    (a : ℕ) × (b : ℕ) × first (last_named name es) a × later names es b × (n ≡ a + b)

-- the field of the first name is refused by that name, at the last entry of it; or else one of the
-- others, with what that field leaves
abbrev pub RefusesNext : {E : Type 0} → (Option Place → ℕ → Type 0)
    → (List ℕ → Option Place → ℕ → ℕ → E → Type 0)
    → (List (List ℕ) → List Entry → ℕ → ℕ → E → Type 0)
    → List (List ℕ) → List Entry → ℕ → ℕ → E → Type 0
RefusesNext counts first later [] es left left' e = ⊥
RefusesNext counts first later (name ∷ names) es left left' e =
    first name (last_named name es) left left' e
    ⊎ RefusesBehind (counts (last_named name es)) (later names es) left left' e

-- the record is made of the fields of a table; the count is 1, one for each entry, and the fields'
-- own
pub record ReadsRecord {F R : Type 0} (reads : List (List ℕ) → List Entry → F → ℕ → Type 0)
    (names : List (List ℕ)) (made : F → R) (p : Place) (r : R) (n : ℕ) : Type 0 where
  pub places : List Entry
  pub fields : F
  pub total : ℕ
  pub are : entries_at p ≡ Some places
  pub each : reads names places fields total
  pub is : r ≡ made fields
  pub count : n ≡ 1 + length places + total

-- a table stands there whose fields can be read; the table, its entries and the fields are paid
pub record CountsRecord (counts : List (List ℕ) → List Entry → ℕ → Type 0)
    (names : List (List ℕ)) (p : Place) (n : ℕ) : Type 0 where
  pub places : List Entry
  pub total : ℕ
  pub are : entries_at p ≡ Some places
  pub each : counts names places total
  pub count : n ≡ 1 + length places + total

-- a table stands there and is paid for, and one of its fields is refused with what is left
pub record RefusesField {E : Type 0} (refuses : List (List ℕ) → List Entry → ℕ → ℕ → E → Type 0)
    (names : List (List ℕ)) (p : Place) (left left' : ℕ) (e : E) : Type 0 where
  pub places : List Entry
  pub inside : ℕ
  pub are : entries_at p ≡ Some places
  pub paid : inside + 1 + length places ≡ left
  pub refused : refuses names places inside left' e

-- no table is read there, or one of its fields is refused
abbrev pub RefusesRecord : (List (List ℕ) → List Entry → ℕ → ℕ → ReadingError → Type 0)
    → List (List ℕ) → Place → ℕ → ℕ → ReadingError → Type 0
RefusesRecord refuses names p left left' e =
    RefusesTable p left left' e ⊎ RefusesField refuses names p left left' e
