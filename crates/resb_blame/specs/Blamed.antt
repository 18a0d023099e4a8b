-- What is to blame for a refusal, and where its path leads.
--     Blamed                  an error, the path to the resource, and the field that it lacks
--     IsUnder step inner b    the same, seen from outside by one step more
--     Leads p path q          a path leads from a place to a place
--     Points p b              the path leads to a place that lacks the field that is named
use Rattle.std.specs.Prelude.{◌≡◌, ℕ, List, [], ◌∷◌, Option, Some, None, slice_get}
use Rattle.resb_diff.specs.Differences.{Step, by_key, by_number}
use Rattle.resb_format.specs.declared.error.ReadingError.{ReadingError}
use Rattle.resb_walk.specs.BlockRefusals.{Says}
use Rattle.resb_fields.specs.Fields.{Entry, missing}
use Rattle.resb_read.specs.Places.{Place}
use Rattle.resb_read.specs.Sequences.{members_at, entries_at}
use Rattle.resb_read.specs.Tables.{HasEntry, last_named}

-- the error, the steps to the resource that is refused, and the name of the field that it lacks
pub record Blamed : Type 0 where
  pub error : ReadingError
  pub path : List Step
  pub field : Option (List ℕ)

-- the same error and field, at the end of a path that has this step before it
abbrev pub IsUnder : Step → Blamed → Blamed → Type 0
IsUnder step inner b =
    b ≡ record { error = inner.error; path = step ∷ inner.path; field = inner.field }

-- the resource itself is to blame, as a whole
abbrev pub IsHere : Blamed → Type 0
IsHere b = (b.path ≡ []) × (b.field ≡ None)

-- an entry of the table at a place has this key, and its value stands at the other place
pub record StepsToKey (p : Place) (name : List ℕ) (q : Place) : Type 0 where
  pub entries : List Entry
  pub are : entries_at p ≡ Some entries
  pub has : HasEntry name entries q

-- the member of this number of the array or vector at a place stands at the other
pub record StepsToMember (p : Place) (number : ℕ) (q : Place) : Type 0 where
  pub members : List Place
  pub are : members_at p ≡ Some members
  pub has : slice_get members number ≡ Some q

-- a step leads from a place to another
abbrev pub StepsInto : Place → Step → Place → Type 0
StepsInto p (by_key name) q = StepsToKey p name q
StepsInto p (by_number n) q = StepsToMember p n q

-- a path leads from a place to another
abbrev pub Leads : Place → List Step → Place → Type 0
Leads p [] q = p ≡ q
Leads p (step ∷ path) q = (m : Place) × StepsInto p step m × Leads m path q

-- a table stands at the place without an entry of this name, and the error says that a field is
-- missing
pub record LacksField (p : Place) (name : List ℕ) (e : ReadingError) : Type 0 where
  pub entries : List Entry
  pub are : entries_at p ≡ Some entries
  pub none : last_named name entries ≡ None
  pub says : Says missing e

-- the place lacks the field, if one is named
abbrev pub Lacking : Place → Option (List ℕ) → ReadingError → Type 0
Lacking p None e = Unit {0}
Lacking p (Some name) e = LacksField p name e

-- the path leads from the place to one that lacks the field that is named, if one is
abbrev pub Points : Place → Blamed → Type 0
Points p b = (q : Place) × Leads p b.path q × Lacking q b.field b.error
