-- What a reading answers within a budget.
--     IsSpent e               the error says that the budget is spent
--     IsFault e               it says neither that, nor want of memory
--     Refuses den reaches left e      why a reading with so much left is refused
--     TakesOne left left' e   unless memory or the budget is wanted, at least one was taken
use Rattle.std.specs.Prelude.{◌≡◌, ◌≢◌, ◌≤◌, ◌+◌, ◌⊎◌, ℕ, Result, Ok, Err, codes}
use Rattle.resb_format.specs.Error.{kind_of, message_of, IsInvalid, IsWantOfMemory}
use Rattle.resb_format.specs.declared.error.ErrorKind.TheVariants.{OutOfMemory}
use Rattle.resb_format.specs.declared.error.ReadingError.{ReadingError}

-- the error says that the budget is spent
abbrev pub IsSpent : ReadingError → Type 0
IsSpent e = IsInvalid e (codes "resource budget spent")

-- the error is of what stands in the file: neither want of memory nor a spent budget
pub record IsFault (e : ReadingError) : Type 0 where
  pub not_memory : kind_of e ≢ OutOfMemory
  pub not_spent : message_of e ≢ codes "resource budget spent"

-- nothing is denoted, and no more resources than these are reached
abbrev pub DenotesNothing : {T : Type 0} → (T → ℕ → Type 0) → (ℕ → Type 0) → ℕ → Type 0
DenotesNothing {T} den reaches left = ((t : T) (n : ℕ) → den t n → ⊥) × (reaches (left + 1) → ⊥)

-- memory; or one resource more than the budget is reached; or a fault, where nothing is denoted
abbrev pub Refuses : {T : Type 0} → (T → ℕ → Type 0) → (ℕ → Type 0) → ℕ → ReadingError → Type 0
Refuses den reaches left e =
    IsWantOfMemory e
    ⊎ ((IsSpent e × reaches (left + 1)) ⊎ (IsFault e × DenotesNothing den reaches left))

-- a refusal for another reason than memory or the spent budget has taken at least one
abbrev pub TakesOne : ℕ → ℕ → ReadingError → Type 0
TakesOne left left' e = IsWantOfMemory e ⊎ (IsSpent e ⊎ (left' + 1 ≤ left))

-- a value that stands for what is denoted, and is paid for, or a refusal
abbrev pub Answers : {X T : Type 0} → (X → T → Type 0) → (T → ℕ → Type 0) → (ℕ → Type 0) → ℕ → ℕ
    → Result X ReadingError → Type 0
Answers {X} {T} is den reaches left left' (Ok x) =
    (t : T) × (n : ℕ) × den t n × is x t × (left' + n ≡ left)
Answers is den reaches left left' (Err e) = (left' ≤ left) × Refuses den reaches left e
