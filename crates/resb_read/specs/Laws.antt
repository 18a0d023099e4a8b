-- What the laws of reading say.
--     OneValue                at a place stands one value of each type without parts, and one tree
use Rattle.std.specs.Prelude.{◌≡◌, ℕ, ℤ}
use Rattle.resb_read.specs.Leaves.{ReadsSigned, ReadsUnsigned, ReadsBool, ReadsBits, ReadsText}
use Rattle.resb_read.specs.Leaves.{ReadsKey, ReadsBytes}
use Rattle.resb_read.specs.Leaves.{ReadsView}
use Rattle.resb_read.specs.Places.{Place}
use Rattle.resb_read.specs.Resources.{DenPlace}

-- two values that are read at one place are equal
abbrev pub OneAtPlace : {X : Type 0} → (Place → X → ℕ → Type 0) → Type 0
OneAtPlace {X} reads = (p : Place) (x y : X) (m n : ℕ) → reads p x m → reads p y n → x ≡ y

-- two values that are read at one place are equal: numbers of a range, bools, 28 bits, texts, keys,
-- bytes, views and trees
abbrev pub OneValue : Type 0
OneValue = ((low high : ℤ) → OneAtPlace (ReadsSigned low high))
    × ((high : ℕ) → OneAtPlace (ReadsUnsigned high)) × OneAtPlace ReadsBool × OneAtPlace ReadsBits
    × OneAtPlace ReadsText × OneAtPlace ReadsKey × OneAtPlace ReadsBytes
    × ((each : ℕ) → OneAtPlace (ReadsView each)) × OneAtPlace DenPlace
