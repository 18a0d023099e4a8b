-- The keys of a tree's tables.
--     is_key k t              k is a key of some table of the tree
use Rattle.std.specs.Prelude.{ℕ, List, Bool, false, ◌||◌, nat_eq}
use Rattle.std.specs.Cmp.Lexicographic.{pointwise}
use Rattle.resb_tree.specs.Tree.{Tree, string, alias, array, table, binary, integer}
use Rattle.resb_tree.specs.Tree.{int_vector, Trees, no_trees, more_trees}
use Rattle.resb_tree.specs.Tree.{Entries, no_entries, entry}

-- two texts have the same bytes
abbrev pub same_text : List ℕ → List ℕ → Bool
same_text = pointwise nat_eq

abbrev mutual
  -- the text is a key of some table of the tree
  pub is_key : List ℕ → Tree → Bool
  is_key k (array ts) = is_key_in k ts
  is_key k (table es) = is_key_of k es
  is_key k (string s) = false
  is_key k (alias s) = false
  is_key k (binary s) = false
  is_key k (integer n) = false
  is_key k (int_vector s) = false

  -- the text is a key of some table of one of these trees
  pub is_key_in : List ℕ → Trees → Bool
  is_key_in k no_trees = false
  is_key_in k (more_trees t ts) = is_key k t || is_key_in k ts

  -- the text is the key of one of these entries, or of some table of their trees
  pub is_key_of : List ℕ → Entries → Bool
  is_key_of k no_entries = false
  is_key_of k (entry l t es) = (same_text k l || is_key k t) || is_key_of k es
