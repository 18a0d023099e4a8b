-- What is answered at a place with so much left, before it is said of which file.
use Rattle.std.specs.Prelude.{◌≡◌, ◌<◌, ◌≤◌, ◌⊎◌, ℕ, List, Result, Ok, Err}
use Rattle.resb_tree.specs.Tree.{Tree}
use Rattle.resb_tree.specs.declared.resource.Resource.{Resource}
use Rattle.resb_format.specs.declared.error.ReadingError.{ReadingError}
use Rattle.resb_walk.specs.Meets.{Blames}
use Rattle.resb_walk.specs.Pieces.{Piece}
use Rattle.resb_walk.specs.Refusals.{Refuses}
use Rattle.resb_walk.specs.TreeBytes.{tree_bytes}
use Rattle.resb_read.specs.Measuring.{IsMeasured, IsLarger, HasLargerKeys, key_bytes, FitsWithin}
use Rattle.resb_read.specs.Places.{Place}
use Rattle.resb_read.specs.Resources.{DenPlace, ReachesPlace, MeetsPlace, HoldsPlace, ReadsTree}
use Rattle.resb_read.specs.declared.cursor.Spot.TheVariants as spot
use Rattle.resb_read.specs.declared.measuring.Measured.{Measured}

-- a root stands at a descriptor
abbrev pub IsRoot : Place → Type 0
IsRoot p = (w : ℕ) × (p.at ≡ spot.Descriptor w)

-- why no tree within what is left is read
abbrev pub RefusesHere : Place → ℕ → ReadingError → Type 0
RefusesHere p left e = Refuses (DenPlace p) (ReachesPlace p) left e × Blames (MeetsPlace p) e

-- a tree within what is left, or its refusal
abbrev pub TreeHere : Place → ℕ → Result Resource ReadingError → Type 0
TreeHere p left (Ok r) = (n : ℕ) × ReadsTree p r n × (n ≤ left)
TreeHere p left (Err e) = RefusesHere p left e

-- the count of a tree within what is left, or its refusal
abbrev pub CountHere : Place → ℕ → Result ℕ ReadingError → Type 0
CountHere p left (Ok n) = (t : Tree) × DenPlace p t n × (n ≤ left)
CountHere p left (Err e) = RefusesHere p left e

-- what a tree within what is left adds up to, or its refusal
abbrev pub MeasureHere : Place → ℕ → Result Measured ReadingError → Type 0
MeasureHere p left (Ok m) =
    CountHere p left (Ok m.resources) × (xs : List Piece) × HoldsPlace p xs × IsMeasured m xs
MeasureHere p left (Err e) = RefusesHere p left e

-- a tree within what is left has more bytes in this sum than the limit
abbrev pub MoreHere : (List Piece → ℕ) → Place → ℕ → ℕ → Type 0
MoreHere sum p left limit =
    (n : ℕ) × CountHere p left (Ok n) × (xs : List Piece) × HoldsPlace p xs × (limit < sum xs)

-- the tree takes no more bytes than the limit
abbrev pub FitsHere : Place → ℕ → Type 0
FitsHere p limit = (xs : List Piece) × HoldsPlace p xs × (tree_bytes xs ≤ limit)

-- a tree within what is left, where neither it nor its keys take more bytes than the limit, or its
-- refusal
abbrev pub TreeWithinHere : Place → ℕ → ℕ → Result Resource ReadingError → Type 0
TreeWithinHere p left limit (Ok r) =
    TreeHere p left (Ok r) × (xs : List Piece) × HoldsPlace p xs × FitsWithin limit xs
TreeWithinHere p left limit (Err e) =
    RefusesHere p left e
    ⊎ ((IsLarger e × MoreHere tree_bytes p left limit)
    ⊎ (HasLargerKeys e × FitsHere p limit × MoreHere key_bytes p left limit))
