-- How many resources are still to be dropped, how deep they are, and which trees are no
-- collections.
use Rattle.std.specs.Prelude.{ℕ, List}
use Rattle.std.specs.BTreeMap.{BTreeMap}
use Rattle.resb_tree.specs.Tree.{Tree, array, table, tree_count, trees_count, entries_count}
use Rattle.resb_tree.specs.View.{tree_of, items_view, entries_view}
use Rattle.resb_tree.specs.declared.resource.Resource.{Resource, size-Resource}
use denote.Param.Weighed.{most}

-- no array and no table
abbrev pub IsNoCollection : Tree → Type 0
IsNoCollection (array ts) = ⊥
IsNoCollection (table es) = ⊥
IsNoCollection t = Unit {0}

-- how many resources a resource is, itself included
abbrev pub count : Resource → ℕ
count r = tree_count (tree_of r)

-- how many resources a list has, with all that are inside
abbrev pub counts : List Resource → ℕ
counts rs = trees_count (items_view rs)

-- how many resources a table has inside
abbrev pub table_count : BTreeMap (List ℕ) Resource → ℕ
table_count m = entries_count (entries_view m.entries)

-- how many levels a resource has
abbrev pub depth : Resource → ℕ
depth = size-Resource

-- how many levels the deepest resource of a list has
abbrev pub depth_of : List Resource → ℕ
depth_of = most size-Resource
