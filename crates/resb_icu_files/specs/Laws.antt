-- Laws of texts that are taken in.
use Rattle.std.specs.Prelude.{◌≡◌, ◌≤◌, ◌<◌, ◌^◌, ℕ, List, length}
use Rattle.resb_icu_files.specs.Places.{place_before}
use Rattle.resb_icu_files.specs.TakenIn.{Taken, FirstFault, HasNoFileGroup}
use Rattle.resb_icu_files.specs.Writing.{Output, no_output, Fault}
use Rattle.resb_icu_files.specs.declared.file.TextFile.{TextFile}

-- a text is taken in in one way
abbrev pub TakenInOneWay : Type 0
TakenInOneWay =
    (files : List TextFile) (text : List ℕ) (a b : Output) → Taken files text 0 0 no_output a
    → Taken files text 0 0 no_output b → a ≡ b

-- a text in which a group can't be written is not taken in
abbrev pub LackingIsNotTaken : Type 0
LackingIsNotTaken =
    (files : List TextFile) (text : List ℕ) (fault : Fault) (at : ℕ) (name : List ℕ) (a : Output)
    → FirstFault files text fault at name → Taken files text 0 0 no_output a → ⊥

-- a text has one fault: two that come first are the same one, of the same group
abbrev pub OneFault : Type 0
OneFault =
    (files : List TextFile) (text : List ℕ) (a b : Fault) (at at' : ℕ) (name name' : List ℕ)
    → FirstFault files text a at name → FirstFault files text b at' name'
    → (a ≡ b) × (at ≡ at') × (name ≡ name')

-- places keep their order: of two of the new text, the first stood no further behind in the old
-- one. In memory a place and a text's length are less than 2 ^ 64
abbrev pub PlacesKeepOrder : Type 0
PlacesKeepOrder =
    (files : List TextFile) (text : List ℕ) (a : Output) (p q : ℕ) → length text < 2 ^ 64
    → Taken files text 0 0 no_output a → p ≤ q → q < 2 ^ 64
    → place_before a.changes p ≤ place_before a.changes q

-- a text in which no group takes a file in is taken in as itself, unchanged
abbrev pub UnchangedIsItself : Type 0
UnchangedIsItself =
    (files : List TextFile) (text : List ℕ) → HasNoFileGroup text
    → Taken files text 0 0 no_output (record no_output { said = text })
