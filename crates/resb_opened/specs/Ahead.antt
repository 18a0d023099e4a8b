-- What of an array or a table is still to come, and what it denotes.
--     EachStands p ms         a list of trees, which the members denote
--     PairsStand p es         a list of keys and trees, which the entries denote
--     MembersStand f ms, EntriesStand f es    the same of what the code holds
use Rattle.std.specs.Prelude.{ℕ, List}
use Rattle.resb_tree.specs.Tree.{Tree}
use Rattle.resb_format.specs.Content.{Member}
use Rattle.resb_format.specs.Denotes.{DenEach, DenEntries}
use Rattle.resb_format.specs.Parts.{Parts, parts_in}
use Rattle.resb_format.specs.declared.file_blocks.FileBlocks.{FileBlocks}
use Rattle.resb_walk.specs.Inner.Members.{members_of, keyed_members}
use Rattle.resb_walk.specs.declared.members.Members.{Members}
use Rattle.resb_walk.specs.declared.members.TableParts.{TableParts}

-- the members denote the trees, each its own, with some count
abbrev pub EachDenotes : Parts → List Member → List Tree → Type 0
EachDenotes p ms ts = ∥ ((n : ℕ) × DenEach p ms ts n) ∥₁

-- trees, which the members denote
abbrev pub EachStands : Parts → List Member → Type 0
EachStands p ms = (ts : List Tree) × EachDenotes p ms ts

-- the entries denote the keys and the trees, each its own, with some count
abbrev pub PairsDenote : Parts → List (ℕ × Member) → List (List ℕ × Tree) → Type 0
PairsDenote p es ts = ∥ ((n : ℕ) × DenEntries p es ts n) ∥₁

-- keys and trees, which the entries denote
abbrev pub PairsStand : Parts → List (ℕ × Member) → Type 0
PairsStand p es = (ts : List (List ℕ × Tree)) × PairsDenote p es ts

-- trees, which members of a file denote
abbrev pub MembersStand : FileBlocks → Members → Type 0
MembersStand f ms = EachStands (parts_in f) (members_of ms)

-- keys and trees, which entries of a file denote
abbrev pub EntriesStand : FileBlocks → TableParts → Type 0
EntriesStand f es = PairsStand (parts_in f) (keyed_members es)
