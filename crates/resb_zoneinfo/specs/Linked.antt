-- Members of a list that are values of their own or links to others.
use Rattle.std.specs.Prelude.{ℕ, ℤ, pos, negsuc, ◌≡◌, ◌≢◌, ◌-◌, ◌^◌, ◌⊎◌, Some, None}
use Rattle.resb.specs.Places.{Place}
use Rattle.resb.specs.Leaves.{CountsOf, ReadsSigned}
use Rattle.resb.specs.Spots.{type_at}
use Rattle.resb.specs.BlockRefusals.{Says}
use Rattle.resb.specs.PlaceRefusals.{number_refusal_from, untold}
use Rattle.resb.specs.RefusedReadings.{RefusesAs}
use Rattle.resb.specs.declared.binary.ReadingError.{ReadingError}
use Rattle.resb_zoneinfo.specs.declared.linked.Linked.{Linked}
use Rattle.resb_zoneinfo.specs.declared.linked.Linked.TheVariants.{Link, Value}

-- the type of an integer of 28 bits
abbrev pub integer_type : ℕ
integer_type = 7

-- an integer stands at a place
abbrev pub IsInteger : Place → Type 0
IsInteger p = type_at p ≡ Some integer_type

-- something stands at a place that is no integer
abbrev pub IsOther : Place → Type 0
IsOther p = (t : ℕ) × (type_at p ≡ Some t) × (t ≢ integer_type)

-- a number of 32 bits with a sign is read
abbrev pub ReadsNumber : Place → ℤ → ℕ → Type 0
ReadsNumber = ReadsSigned (negsuc (2 ^ 31 - 1)) (pos (2 ^ 31 - 1))

-- some number of 32 bits with a sign is read
abbrev pub CountsNumber : Place → ℕ → Type 0
CountsNumber = CountsOf ReadsNumber

-- an integer is read as a link, anything else as a value
abbrev pub ReadsLinked : {T : Type 0} → (Place → T → ℕ → Type 0) → Place → Linked T → ℕ → Type 0
ReadsLinked reads p (Link x) n = IsInteger p × ReadsNumber p x n
ReadsLinked reads p (Value x) n = IsOther p × reads p x n

-- some link or value is read
abbrev pub CountsLinked : (Place → ℕ → Type 0) → Place → ℕ → Type 0
CountsLinked counts p n = (IsInteger p × CountsNumber p n) ⊎ (IsOther p × counts p n)

-- no link and no value is read: nothing stands there whose type is read; or an integer does, and is
-- refused as a number; or anything else, and is refused as a value
abbrev pub RefusesLinked : (Place → ℕ → ℕ → ReadingError → Type 0) → Place → ℕ → ℕ → ReadingError
    → Type 0
RefusesLinked refuses p left left' e =
    ((type_at p ≡ None) × Says (untold p) e × (left' ≡ left))
    ⊎ (IsInteger p × RefusesAs number_refusal_from p left left' e)
    ⊎ (IsOther p × refuses p left left' e)
