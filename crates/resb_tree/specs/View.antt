-- The tree that a `Resource` stands for, whether its parts are borrowed or owned.
use Rattle.std.specs.Prelude.{ℕ, List, map}
use Rattle.std.specs.Cow.{cow_str_bytes, cow_slice_items}
use Rattle.resb_tree.specs.Tree.{Tree, string, alias, array, table, binary, integer}
use Rattle.resb_tree.specs.Tree.{int_vector, Trees, Entries, trees_of, entries_of}
use Rattle.resb_tree.specs.declared.resource.Resource.{Resource, fold-Resource}
use Rattle.resb_tree.specs.declared.resource.Resource.TheOpen.{Resource-F}

-- one level, with each resource inside already seen as its tree
abbrev pub tree_step : Resource-F Tree → Tree
tree_step (Resource-F.String s) = string (cow_str_bytes s)
tree_step (Resource-F.Alias s) = alias (cow_str_bytes s)
tree_step (Resource-F.Array v) = array (trees_of v.items)
tree_step (Resource-F.Table m) = table (entries_of m.entries)
tree_step (Resource-F.Binary b) = binary (cow_slice_items b)
tree_step (Resource-F.Integer n) = integer n
tree_step (Resource-F.IntVector v) = int_vector v.items

-- the tree that a resource stands for, whether its parts are borrowed or owned
abbrev pub tree_of : Resource → Tree
tree_of = fold-Resource Tree tree_step

-- the trees that a list of resources stands for
abbrev pub items_view : List Resource → Trees
items_view rs = trees_of (map tree_of rs)

-- a key is its text
abbrev pub pairs_view : List (List ℕ × Resource) → List (List ℕ × Tree)
pairs_view ps = map (λ p. (p.0, tree_of p.1)) ps

-- the entries that pairs of keys and resources stand for
abbrev pub entries_view : List (List ℕ × Resource) → Entries
entries_view ps = entries_of (pairs_view ps)
