-- Which errors a reading at a place may answer, and what it leaves of the budget then.
--     RefusesAs refusal p left left' e
--                             for the types without parts: by the kind and message that the
--                             refusal of `PlaceRefusals` says
--     RefusesText             for a text: the same, memory aside
--     RefusesTree p left left' e
--                             for a tree: by the first fault, or the spent budget, or memory
--     RefusesSeq, RefusesMap  for lists and maps, from what their parts' types say
use Rattle.std.specs.Prelude.{◌≡◌, ◌≤◌, ◌+◌, ◌-◌, ◌⊎◌, ℕ, List, ◌∷◌, ◌++◌, Option, Some}
use Rattle.std.specs.Prelude.{None}
use Rattle.resb_format.specs.Error.{IsWantOfMemory, Refusal}
use Rattle.resb_format.specs.Parts.{Parts}
use Rattle.resb_format.specs.declared.error.ReadingError.{ReadingError}
use Rattle.resb_walk.specs.BlockRefusals.{Says}
use Rattle.resb_walk.specs.Meets.{Blames}
use Rattle.resb_walk.specs.Refusals.{Refuses, TakesOne}
use Rattle.resb_read.specs.Places.{Place}
use Rattle.resb_read.specs.Reading.{LacksOrMemory}
use Rattle.resb_read.specs.Spots.{cost_at}
use Rattle.resb_read.specs.PlaceRefusals.{text_refusal_from, members_refusal_from}
use Rattle.resb_read.specs.PlaceRefusals.{entries_refusal_from}
use Rattle.resb_read.specs.Resources.{DenPlace, ReachesPlace, MeetsPlace}
use Rattle.resb_read.specs.Sequences.{members_at, entries_at, CountsEach, CountsEntry}
use Rattle.resb_read.specs.declared.cursor.Spot.{Spot}
use Rattle.resb_read.specs.declared.cursor.Spot.TheVariants as spot

-- a refusal takes one at a descriptor or a unit, if one is left, and nothing elsewhere
abbrev pub Takes : Spot → ℕ → ℕ → Type 0
Takes s left left' = left' ≡ left - cost_at s

-- a refusal has this kind and message, and takes one resource at a descriptor or a unit, if one was
-- left
abbrev pub RefusesAs : (Parts → Spot → ℕ → Refusal) → Place → ℕ → ℕ → ReadingError → Type 0
RefusesAs refusal p left left' e = Says (refusal p.parts p.at left) e × Takes p.at left left'

-- a text is refused: none can be read there, or memory for it is wanted
abbrev pub RefusesText : Place → ℕ → ℕ → ReadingError → Type 0
RefusesText p left left' e =
    (IsWantOfMemory e ⊎ Says (text_refusal_from p.parts p.at left) e) × Takes p.at left left'

-- memory aside, a refusal for another reason than the spent budget has taken at least one at a
-- descriptor or a unit
abbrev pub TakesSome : Spot → ℕ → ℕ → ReadingError → Type 0
TakesSome (spot.Descriptor w) left left' e = TakesOne left left' e
TakesSome (spot.Unit u) left left' e = TakesOne left left' e
TakesSome s left left' e = Unit {0}

-- a tree is refused: none is denoted there within the budget, and a fault is the first one met and
-- takes one at least; or memory is wanted
abbrev pub RefusesTree : Place → ℕ → ℕ → ReadingError → Type 0
RefusesTree p left left' e =
    Refuses (DenPlace p) (ReachesPlace p) left e × Blames (MeetsPlace p) e
    × TakesSome p.at left left' e

-- what is refused at a place, or at the places of an entry, where the counts are known
abbrev pub RefusesThere : {P : Type 0} → (P → ℕ → Type 0) → (P → ℕ → ℕ → ReadingError → Type 0) → P
    → ℕ → ℕ → ReadingError → Type 0
RefusesThere counts refuses p left left' e =
    (left' ≤ left) × LacksOrMemory (counts p) left e × refuses p left left' e

-- of places, or of the places of entries, one is refused with what those before it leave
pub record RefusesOne {P E : Type 0} (counts : P → ℕ → Type 0) (refuses : P → ℕ → ℕ → E → Type 0)
    (places : List P) (left left' : ℕ) (e : E) : Type 0 where
  pub done : List P
  pub at : P
  pub after : List P
  pub spent : ℕ
  pub here : ℕ
  pub are : places ≡ done ++ at ∷ after
  pub counted : CountsEach counts done spent
  pub paid : here + spent ≡ left
  pub refused : refuses at here left' e

-- a first part has its count, and what stands behind it is refused with what the first leaves
pub record RefusesBehind {E : Type 0} (first : ℕ → Type 0) (behind : ℕ → ℕ → E → Type 0)
    (left left' : ℕ) (e : E) : Type 0 where
  pub spent : ℕ
  pub here : ℕ
  pub counted : first spent
  pub paid : here + spent ≡ left
  pub refused : behind here left' e

-- places stand there, one is paid for the whole, and they are refused with what is left
pub record RefusesInside {P E : Type 0} (there : Option (List P))
    (refuses : List P → ℕ → ℕ → E → Type 0) (left left' : ℕ) (e : E) : Type 0 where
  pub places : List P
  pub inside : ℕ
  pub are : there ≡ Some places
  pub paid : inside + 1 ≡ left
  pub refused : refuses places inside left' e

module _ {P : Type 0} (counts : P → ℕ → Type 0)
    (refuses : P → ℕ → ℕ → ReadingError → Type 0) where
  -- of these places, or of the places of entries, one is refused with what those before it leave;
  -- or memory for the values is wanted
  abbrev pub RefusesEach : List P → ℕ → ℕ → ReadingError → Type 0
  RefusesEach places left left' e = IsWantOfMemory e ⊎ RefusesOne counts refuses places left left' e

  -- no places stand there, or the budget is spent, and the whole is refused; or one is paid for the
  -- whole, and then one of the places is refused with what those before it leave, or memory for the
  -- values is wanted
  abbrev pub RefusesAll : Option (List P) → (ℕ → ℕ → ReadingError → Type 0) → ℕ → ℕ
      → ReadingError → Type 0
  RefusesAll there whole left left' e =
      ((there ≡ None ⊎ left ≡ 0) × whole left left' e)
      ⊎ RefusesInside there RefusesEach left left' e

-- a list is refused: no members stand there, or the budget is spent, or one of the members is
-- refused, or memory for the values is wanted
abbrev pub RefusesSeq : (Place → ℕ → Type 0) → (Place → ℕ → ℕ → ReadingError → Type 0) → Place → ℕ
    → ℕ → ReadingError → Type 0
RefusesSeq counts refuses p left left' e =
    RefusesAll counts (RefusesThere counts refuses) (members_at p)
    (RefusesAs members_refusal_from p) left left' e

module _ (ck : Place → ℕ → Type 0) (fk : Place → ℕ → ℕ → ReadingError → Type 0)
    (cv : Place → ℕ → Type 0) (fv : Place → ℕ → ℕ → ReadingError → Type 0) where
  -- the key is refused, before the value is looked at; or else the value, with what the key leaves
  abbrev pub RefusesKeyOrValue : Place × Place → ℕ → ℕ → ReadingError → Type 0
  RefusesKeyOrValue p left left' e =
      RefusesThere ck fk p.0 left left' e
      ⊎ RefusesBehind (ck p.0) (RefusesThere cv fv p.1) left left' e

  -- a map is refused: no entries stand there, or the budget is spent, or the key or the value of an
  -- entry is refused, or memory for them is wanted
  abbrev pub RefusesMap : Place → ℕ → ℕ → ReadingError → Type 0
  RefusesMap p left left' e =
      RefusesAll (CountsEntry ck cv) RefusesKeyOrValue (entries_at p)
      (RefusesAs entries_refusal_from p) left left' e
