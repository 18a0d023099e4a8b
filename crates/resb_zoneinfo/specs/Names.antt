-- Names as 16-bit units.
use Rattle.std.specs.Prelude.{ℕ, ◌≡◌, ◌<◌, List, Some, length, slice_index, slice_get}
use Rattle.resb.specs.Views.{view_units}
use Rattle.resb.specs.declared.binary.helpers.Utf16View.{Utf16View}

-- the units are the bytes, one by one: so a text of ASCII letters is the same as its units
pub record IsSame (units bytes : List ℕ) : Type 0 where
  pub as_many : length units ≡ length bytes
  pub each : (k : ℕ) → k < length bytes → slice_index units k ≡ slice_index bytes k

-- the name at a place of a list is this one
abbrev pub IsNameAt : List Utf16View → List ℕ → ℕ → Type 0
IsNameAt names name k =
    (v : Utf16View) × (slice_get names k ≡ Some v) × IsSame (view_units v) name

-- none of the names before a place is this one
abbrev pub NoneBefore : List Utf16View → List ℕ → ℕ → Type 0
NoneBefore names name end = (k : ℕ) → k < end → IsNameAt names name k → ⊥

-- the first place at which this name stands, unit by unit
pub record IsNumberOf (names : List Utf16View) (name : List ℕ) (number : ℕ) : Type 0 where
  pub there : IsNameAt names name number
  pub first : NoneBefore names name number

-- no name is this one
abbrev pub HasNoName : List Utf16View → List ℕ → Type 0
HasNoName names name = NoneBefore names name (length names)
