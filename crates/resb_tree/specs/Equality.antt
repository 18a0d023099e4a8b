-- The test whether two trees are equal.
use Rattle.std.specs.Prelude.{Bool, true, false, ◌&&◌, nat_eq}
use Rattle.std.specs.Cmp.Lexicographic.{pointwise}
use Rattle.resb_tree.specs.Tree.{Tree, string, alias, array, table, binary, integer}
use Rattle.resb_tree.specs.Tree.{int_vector, Trees, no_trees, more_trees}
use Rattle.resb_tree.specs.Tree.{Entries, no_entries, entry}

abbrev mutual
  -- two trees are the same
  pub tree_eq : Tree → Tree → Bool
  tree_eq (string s) (string t) = pointwise nat_eq s t
  tree_eq (alias s) (alias t) = pointwise nat_eq s t
  tree_eq (string s) _ = false
  tree_eq (alias s) _ = false
  tree_eq (array ts) (array us) = trees_eq ts us
  tree_eq (array ts) _ = false
  tree_eq (table es) (table fs) = entries_eq es fs
  tree_eq (table es) _ = false
  tree_eq (binary s) (binary t) = pointwise nat_eq s t
  tree_eq (binary s) _ = false
  tree_eq (integer n) (integer m) = nat_eq n m
  tree_eq (integer n) _ = false
  tree_eq (int_vector s) (int_vector t) = pointwise nat_eq s t
  tree_eq (int_vector s) _ = false

  -- two lists of trees are the same
  pub trees_eq : Trees → Trees → Bool
  trees_eq no_trees no_trees = true
  trees_eq no_trees (more_trees u us) = false
  trees_eq (more_trees t ts) no_trees = false
  trees_eq (more_trees t ts) (more_trees u us) = tree_eq t u && trees_eq ts us

  -- two lists of entries are the same, keys and trees
  pub entries_eq : Entries → Entries → Bool
  entries_eq no_entries no_entries = true
  entries_eq no_entries (entry l u fs) = false
  entries_eq (entry k t es) no_entries = false
  entries_eq (entry k t es) (entry l u fs) =
      (pointwise nat_eq k l && tree_eq t u) && entries_eq es fs
