-- Resources without what is inside them.
--     IsNode n t              what is known of a tree by its node
--     AreNodes ns ts          each of some trees is known by the node at its place
use Rattle.std.specs.Prelude.{◌≡◌, ℕ, ◌^◌, ◌<◌, List, [], ◌∷◌, length}
use Rattle.std.specs.List.Sorted.{IsStrictlySortedBy}
use Rattle.resb_tree.specs.Tree.{Tree, string, alias, array, table, binary, integer, int_vector}
use Rattle.resb_tree.specs.Tree.{Trees, Entries}
use Rattle.resb_tree.specs.Maps.{text_cmp}
use Rattle.resb_tree.specs.LayingOrder.{array_members, values_of, entry_keys}
use Rattle.resb_write.specs.declared.nodes.Node.{Node}
use Rattle.resb_write.specs.declared.nodes.Node.TheVariants.{String, Alias, Array, Table, Binary}
use Rattle.resb_write.specs.declared.nodes.Node.TheVariants.{Integer, IntVector}

-- a tree that stands at no place
abbrev pub no_tree : Tree
no_tree = integer 0

-- an array of so many members
pub record IsArrayOf (n : ℕ) (t : Tree) : Type 0 where
  pub members : Trees
  pub is : t ≡ array members
  pub many : length (array_members members) ≡ n

-- a table of so many entries, whose keys strictly ascend
pub record IsTableOf (n : ℕ) (t : Tree) : Type 0 where
  pub entries : Entries
  pub is : t ≡ table entries
  pub many : length (values_of entries) ≡ n
  pub ascend : IsStrictlySortedBy text_cmp (entry_keys entries)

-- what is known of a tree by its node
abbrev pub IsNode : Node → Tree → Type 0
IsNode (String s) t = t ≡ string s.now
IsNode (Alias s) t = t ≡ alias s.now
IsNode (Array n) t = IsArrayOf n t
IsNode (Table n) t = IsTableOf n t
IsNode (Binary bytes) t = t ≡ binary bytes.now
IsNode (Integer n) t = (t ≡ integer n) × (n < 2 ^ 28)
IsNode (IntVector ns) t = t ≡ int_vector ns.now

-- each node is one of the tree at its place
abbrev pub AreNodes : List Node → List Tree → Type 0
AreNodes [] [] = Unit {0}
AreNodes [] (t ∷ ts) = ⊥
AreNodes (n ∷ ns) [] = ⊥
AreNodes (n ∷ ns) (t ∷ ts) = IsNode n t × AreNodes ns ts
