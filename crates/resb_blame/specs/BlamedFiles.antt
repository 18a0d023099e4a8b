-- What is to blame where a whole file is refused, and where that leads.
use Rattle.std.specs.Prelude.{◌≡◌, ◌⊎◌, ℕ, Some}
use Rattle.resb_format.specs.Error.{kind_of, refusal_of}
use Rattle.resb_format.specs.declared.error.ErrorKind.TheVariants.{OutOfMemory}
use Rattle.resb_read.specs.Roots.{Whole, HoldsAt, place_of_root}
use Rattle.resb_blame.specs.Blamed.{Blamed, IsHere, Points}
use Rattle.resb_blame.specs.Blames.{Blaming}

-- memory is wanted; or the file itself, by the first check of its head that fails; or what the type
-- blames at the root, with the whole budget
abbrev pub BlamesFile : Blaming → Whole → Blamed → Type 0
BlamesFile blames w b =
    (kind_of b.error ≡ OutOfMemory)
    ⊎ ((IsHere b × (w.refusal ≡ Some (refusal_of b.error)))
    ⊎ ((left : ℕ) × HoldsAt (λ p. blames p w.budget left b) w))

-- memory is wanted; or the path leads from the root to a place that lacks the field that is named,
-- if one is
abbrev pub PointsFile : Whole → Blamed → Type 0
PointsFile w b = (kind_of b.error ≡ OutOfMemory) ⊎ Points (place_of_root w) b
