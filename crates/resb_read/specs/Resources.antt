-- Which tree is read at a place, as a resource.
use Rattle.std.specs.Prelude.{◌≡◌, ℕ, List}
use Rattle.resb_tree.specs.Tree.{Tree}
use Rattle.resb_tree.specs.View.{tree_of}
use Rattle.resb_tree.specs.declared.resource.Resource.{Resource}
use Rattle.resb_walk.specs.Borrows.{Borrows}
use Rattle.resb_walk.specs.Meets.{Meets}
use Rattle.resb_walk.specs.Pieces.{Piece, Holds}
use Rattle.resb_format.specs.Content.{word, unit}
use Rattle.resb_format.specs.Parts.{Parts}
use Rattle.resb_format.specs.Denotes.{Den, DenMember, Reaches, ReachesMember}
use Rattle.resb_format.specs.Error.{Refusal}
use Rattle.resb_read.specs.Places.{Place}
use Rattle.resb_read.specs.PlaceRefusals.{elsewhere}
use Rattle.resb_read.specs.declared.cursor.Spot.{Spot}
use Rattle.resb_read.specs.declared.cursor.Spot.TheVariants as spot

-- the tree that a spot denotes: at a descriptor or at a short collection's string, and nowhere else
abbrev pub DenSpot : Parts → Spot → Tree → ℕ → Type 0
DenSpot p (spot.Descriptor w) t n = Den p w t n
DenSpot p (spot.Unit u) t n = DenMember p (unit u) t n
DenSpot p s t n = ⊥

-- the tree that a place denotes, with its count
abbrev pub DenPlace : Place → Tree → ℕ → Type 0
DenPlace p t n = DenSpot p.parts p.at t n

-- a resource that stands for the tree, and copies no bytes
abbrev pub ReadsTree : Place → Resource → ℕ → Type 0
ReadsTree p r n = DenPlace p (tree_of r) n × Borrows r

-- at least n resources stand at this spot up to the first fault
abbrev pub ReachesSpot : Parts → Spot → ℕ → Type 0
ReachesSpot p (spot.Descriptor w) n = Reaches p w n
ReachesSpot p (spot.Unit u) n = ReachesMember p (unit u) n
ReachesSpot p s n = ⊥

-- at least n resources stand at this place up to the first fault
abbrev pub ReachesPlace : Place → ℕ → Type 0
ReachesPlace p n = ReachesSpot p.parts p.at n

-- the first fault that a reading of the tree meets
abbrev pub MeetsSpot : Parts → Spot → Refusal → Type 0
MeetsSpot p (spot.Descriptor w) f = Meets p (word w) f
MeetsSpot p (spot.Unit u) f = Meets p (unit u) f
MeetsSpot p s f = f ≡ elsewhere

-- the first fault that a reading of the tree at this place meets
abbrev pub MeetsPlace : Place → Refusal → Type 0
MeetsPlace p f = MeetsSpot p.parts p.at f

-- the pieces of the tree at a descriptor's place
abbrev pub HoldsSpot : Parts → Spot → List Piece → Type 0
HoldsSpot p (spot.Descriptor w) xs = Holds p w xs
HoldsSpot p s xs = ⊥

-- the same of a place
abbrev pub HoldsPlace : Place → List Piece → Type 0
HoldsPlace p xs = HoldsSpot p.parts p.at xs
