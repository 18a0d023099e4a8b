-- What is read of a whole file.
--     info_names              the keys of its root
--     ReadsInfo reads bytes fields    the fields are read of the file
--     RefusesInfo counts refuses bytes e  why none are
use Rattle.std.specs.Prelude.{ℕ, ◌≤◌, List, [], ◌∷◌, None, codes}
use Rattle.resb.specs.File.{budget}
use Rattle.resb.specs.Fields.{Entry, ReadsRecord, CountsRecord, RefusesRecord}
use Rattle.resb.specs.Reading.{LacksOrMemory}
use Rattle.resb.specs.Roots.{HoldsAt, RefusesAt}
use Rattle.resb.specs.WithPool.{over}
use Rattle.resb.specs.declared.binary.ReadingError.{ReadingError}

-- the keys of a file's root, in the order of the fields that are read at them
abbrev pub info_names : List (List ℕ)
info_names =
    codes "TZVersion" ∷ codes "Names" ∷ codes "Zones" ∷ codes "Rules" ∷ codes "Regions" ∷ []

-- the fields are read at these keys of the root of the file, beside no pool bundle, within the
-- file's budget
abbrev pub ReadsInfo : {F : Type 0} → (List (List ℕ) → List Entry → F → ℕ → Type 0) → List ℕ → F
    → Type 0
ReadsInfo reads bytes fields =
    (n : ℕ) × HoldsAt (λ p. ReadsRecord reads info_names (λ f. f) p fields n) (over None bytes)
    × (n ≤ budget bytes)

-- memory is wanted, or no fields can be read so; and the error is that of the first check of the
-- head that fails, or of the root, or of the first field
abbrev pub RefusesInfo : (List (List ℕ) → List Entry → ℕ → Type 0)
    → (List (List ℕ) → List Entry → ℕ → ℕ → ReadingError → Type 0) → List ℕ → ReadingError
    → Type 0
RefusesInfo counts refuses bytes e =
    LacksOrMemory (λ n. HoldsAt (λ p. CountsRecord counts info_names p n) (over None bytes))
    (budget bytes) e
    × RefusesAt (RefusesRecord refuses info_names) (over None bytes) e
