-- What a reading within a budget answers.
--     Lacks counts left           no count that can be paid for stands there
--     Reads refuses reads counts left left' r
--                             Ok with a value that is read and paid for; or else such a count
--                             lacks, and the error is one that may be answered then
use Rattle.std.specs.Prelude.{◌≡◌, ◌≤◌, ◌+◌, ◌⊎◌, ℕ, Option, Some, Result, Ok, Err}
use Rattle.resb_format.specs.Error.{IsWantOfMemory}
use Rattle.resb_format.specs.declared.error.ReadingError.{ReadingError}

-- no count of at most what is left stands there
abbrev pub Lacks : (ℕ → Type 0) → ℕ → Type 0
Lacks counts left = (n : ℕ) → counts n → n ≤ left → ⊥

-- a value that is read and paid for; or no count that can be paid for, and one of these errors
abbrev pub Reads : {X : Type 0} → (ℕ → ℕ → ReadingError → Type 0) → (X → ℕ → Type 0)
    → (ℕ → Type 0) → ℕ → ℕ → Result X ReadingError → Type 0
Reads refuses reads counts left left' (Ok x) = (n : ℕ) × reads x n × (left' + n ≡ left)
Reads refuses reads counts left left' (Err e) =
    (left' ≤ left) × Lacks counts left × refuses left left' e

-- why a reading that asks for memory is refused
abbrev pub LacksOrMemory : (ℕ → Type 0) → ℕ → ReadingError → Type 0
LacksOrMemory counts left e = IsWantOfMemory e ⊎ Lacks counts left

-- a value that fits is the one that stands there, with its count
abbrev pub IsThere : {X : Type 0} → (X → Type 0) → Option (X × ℕ) → X → ℕ → Type 0
IsThere fits there x n = fits x × (there ≡ Some (x, n))

-- whatever the value is, it fits
abbrev pub any : {X : Type 0} → X → Type 0
any _ = Unit {0}
