-- Whether a tree has an alias, which files of the reader of version 2.0 alone never have.
--     has_alias t             some resource of the tree is an alias
use Rattle.std.specs.Prelude.{Bool, true, false, ◌||◌}
use Rattle.resb_tree.specs.Tree.{Tree, string, alias, array, table, binary, integer, int_vector}
use Rattle.resb_tree.specs.Tree.{Trees, no_trees, more_trees, Entries, no_entries, entry}

abbrev mutual
  -- some resource of the tree is an alias
  pub has_alias : Tree → Bool
  has_alias (alias s) = true
  has_alias (array ts) = has_alias_in ts
  has_alias (table es) = has_alias_of es
  has_alias (string s) = false
  has_alias (binary s) = false
  has_alias (integer n) = false
  has_alias (int_vector s) = false

  -- some resource of these trees is one
  pub has_alias_in : Trees → Bool
  has_alias_in no_trees = false
  has_alias_in (more_trees t ts) = has_alias t || has_alias_in ts

  -- some resource of these entries is one
  pub has_alias_of : Entries → Bool
  has_alias_of no_entries = false
  has_alias_of (entry k t es) = has_alias t || has_alias_of es
