-- Which tree stands at a member of a file.
--     Stands p m              a tree that the member m of a file with the parts p denotes
--     StandsAt f m, RootStands f w    the same of what the code holds: a member, and a root's word
use Rattle.std.specs.Prelude.{ℕ}
use Rattle.resb_tree.specs.Tree.{Tree}
use Rattle.resb_format.specs.Content.{Member, word}
use Rattle.resb_format.specs.Denotes.{DenMember}
use Rattle.resb_format.specs.Parts.{Parts, parts_in}
use Rattle.resb_format.specs.declared.file_blocks.FileBlocks.{FileBlocks}
use Rattle.resb_walk.specs.Inner.Members.{member_of}
use Rattle.resb_walk.specs.declared.members.Member as walk

-- the member denotes the tree, with some count of resources
abbrev pub Denoted : Parts → Member → Tree → Type 0
Denoted p m t = ∥ ((n : ℕ) × DenMember p m t n) ∥₁

-- a tree, which the member denotes
abbrev pub Stands : Parts → Member → Type 0
Stands p m = (t : Tree) × Denoted p m t

-- a tree, which the member of a file denotes
abbrev pub StandsAt : FileBlocks → walk.Member → Type 0
StandsAt f m = Stands (parts_in f) (member_of m)

-- a tree, which a file's root denotes, given its word
abbrev pub RootStands : FileBlocks → ℕ → Type 0
RootStands f w = Stands (parts_in f) (word w)
