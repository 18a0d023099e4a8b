-- Spots: what one costs, the type of the resource that stands at one, and which kind it is.
use Rattle.std.specs.Prelude.{◌≡◌, ◌+◌, ◌<◌, ℕ, Option, Some, None, Result, MatchResult}
use Rattle.std.specs.Prelude.{if◌then◌else◌}
use Rattle.resb_format.specs.declared.error.ReadingError.{ReadingError}
use Rattle.resb_format.specs.Parts.{Parts}
use Rattle.resb_format.specs.Descriptor.{type_number}
use Rattle.resb_format.specs.declared.repr_type.ResourceReprType.TheVariants as kind
use Rattle.resb_walk.specs.BlockRefusals.{reads_type}
use Rattle.resb_walk.specs.Refusals.{IsSpent}
use Rattle.resb_read.specs.Leaves.{type_in}
use Rattle.resb_read.specs.Places.{Place}
use Rattle.resb_read.specs.declared.cursor.Spot.{Spot}
use Rattle.resb_read.specs.declared.cursor.Spot.TheVariants as spot

-- a resource, which costs one; a word or a key costs nothing
abbrev pub cost_at : Spot → ℕ
cost_at (spot.Descriptor w) = 1
cost_at (spot.Unit u) = 1
cost_at s = 0

-- what stands there is passed over and paid; or less is left than it costs, and nothing is taken
abbrev pub Skips : {A : Type 0} → Spot → ℕ → ℕ → Result A ReadingError → Type 0
Skips s left left' r =
    MatchResult r (λ _. left' + cost_at s ≡ left)
    (λ e. IsSpent e × (left < cost_at s) × (left' ≡ left))

-- the type of the resource that stands at a spot, where it is one that is read
abbrev pub type_from : Parts → Spot → Option ℕ
type_from p (spot.Descriptor w) = if reads_type p (type_in w) then Some (type_in w) else None
type_from p (spot.Unit u) = Some (type_number kind.StringV2)
type_from p s = None

-- the same of a place
abbrev pub type_at : Place → Option ℕ
type_at p = type_from p.parts p.at

-- the spot is a member of 16 bits
abbrev pub IsUnitSpot : Spot → Type 0
IsUnitSpot (spot.Unit u) = Unit {0}
IsUnitSpot s = ⊥

-- the spot is a number of a vector
abbrev pub IsWordSpot : Spot → Type 0
IsWordSpot (spot.Word w) = Unit {0}
IsWordSpot s = ⊥

-- the spot is a key
abbrev pub IsKeySpot : Spot → Type 0
IsKeySpot (spot.Key k) = Unit {0}
IsKeySpot s = ⊥
