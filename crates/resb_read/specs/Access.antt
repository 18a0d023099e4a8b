-- An access to the members of a sequence, or to the entries of a map.
--     StepsReading            one step, which reads and pays the next member, or the next entry
--     StepsTo, EntersTo       one step, which hands on where that stands
use Rattle.std.specs.Prelude.{ℕ, List, [], ◌∷◌, Option, Some, None, Result, Ok, Err, ◌≡◌, ◌+◌}
use Rattle.resb_read.specs.Places.{Place, place_of}
use Rattle.resb_read.specs.declared.cursor.Cursor.{Cursor}
use Rattle.resb_read.specs.RefusedReadings.{RefusesThere}
use Rattle.resb_format.specs.declared.error.ReadingError.{ReadingError}

-- what is still to come, and the error that it stopped at
pub record AccessOver (P : Type 0) : Type 0 where
  pub rest : List P
  pub failed : Option ReadingError

-- the members still to come
abbrev pub Access : Type 0
Access = AccessOver Place

-- the entries still to come, each the places of its key and value
abbrev pub EntryAccess : Type 0
EntryAccess = AccessOver (Place × Place)

-- one step, by what is taken at the first that is still to come, and why it is refused
module _ {P X : Type 0} (takes : P → X → ℕ → ℕ → Type 0)
    (refuses : P → ℕ → ℕ → ReadingError → Type 0) where
  -- one step over these: what stands at the first is taken, and the first is gone; or it is
  -- refused, and the error is kept; or none is left
  abbrev pub StepsOver : List P → ℕ → AccessOver P → ℕ → Result (Option X) ReadingError → Type 0
  StepsOver [] left new left' (Ok None) =
      (new ≡ record { rest = []; failed = None }) × (left' ≡ left)
  StepsOver (p ∷ ps) left new left' (Ok (Some x)) =
      (new ≡ record { rest = ps; failed = None }) × takes p x left left'
  StepsOver (p ∷ ps) left new left' (Err e) =
      (new ≡ record { rest = p ∷ ps; failed = Some e }) × refuses p left left' e
  StepsOver _ left new left' _ = ⊥

  -- one step: an error that was kept is answered again, and nothing else changes
  abbrev pub StepsAfter : Option ReadingError → AccessOver P → ℕ → AccessOver P → ℕ
      → Result (Option X) ReadingError → Type 0
  StepsAfter (Some e) old left new left' result = (result ≡ Err e) × (new ≡ old) × (left' ≡ left)
  StepsAfter None old left new left' result = StepsOver old.rest left new left' result

  -- one step of an access, with what is left of the budget before and after: the first that is to
  -- come is taken, or refused and the error kept, or none is left, or a kept error is answered
  -- again
  abbrev pub StepsBy : AccessOver P → ℕ → AccessOver P → ℕ → Result (Option X) ReadingError → Type 0
  StepsBy old left new left' result = StepsAfter old.failed old left new left' result

-- a value is read there, and paid
abbrev pub TakesRead : {P X : Type 0} → (P → X → ℕ → Type 0) → P → X → ℕ → ℕ → Type 0
TakesRead reads p x left left' = (n : ℕ) × reads p x n × (left' + n ≡ left)

-- one step that reads: the value at the first is read and paid, or it is refused
abbrev pub StepsReading : {P X : Type 0} → (P → X → ℕ → Type 0) → (P → ℕ → Type 0)
    → (P → ℕ → ℕ → ReadingError → Type 0) → AccessOver P → ℕ → AccessOver P → ℕ
    → Result (Option X) ReadingError → Type 0
StepsReading reads counts refuses = StepsBy (TakesRead reads) (RefusesThere counts refuses)

-- nothing is refused
abbrev pub RefusesNone : {P : Type 0} → P → ℕ → ℕ → ReadingError → Type 0
RefusesNone p left left' e = ⊥

-- the cursor stands at the place
abbrev pub HandsOn : Place → Cursor → ℕ → ℕ → Type 0
HandsOn p c left left' = place_of c ≡ p

-- the cursors stand at the places of a key and its value
abbrev pub HandsOnBoth : Place × Place → Cursor × Cursor → ℕ → ℕ → Type 0
HandsOnBoth p c left left' = (place_of c.0 ≡ p.0) × (place_of c.1 ≡ p.1)

-- one step of an access to the next place, which is handed on unread and unpaid
abbrev pub StepsTo : Access → Access → Result (Option Cursor) ReadingError → Type 0
StepsTo old new result = StepsBy HandsOn RefusesNone old 0 new 0 result

-- one step to the places of the next key and value, which are handed on unread and unpaid
abbrev pub EntersTo : EntryAccess → EntryAccess → Result (Option (Cursor × Cursor)) ReadingError
    → Type 0
EntersTo old new result = StepsBy HandsOnBoth RefusesNone old 0 new 0 result
