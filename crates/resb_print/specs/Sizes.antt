-- How long the text of a bundle may be: so much for each resource, and so much for each byte and
-- each number that these hold.
use Rattle.std.specs.Prelude.{ℕ, ◌+◌, ◌*◌, List, length}
use Rattle.resb_tree.specs.Tree.{Tree, string, alias, array, table, binary, integer, int_vector}
use Rattle.resb_tree.specs.Tree.{Trees, no_trees, more_trees, Entries, no_entries, entry}
use Rattle.resb_tree.specs.Tree.{tree_count}

-- what is held in trees, as it counts towards a text
abbrev mutual
  -- what the strings, paths, keys, binaries and vectors of a tree add to the length of its text:
  -- this many for each byte of a string or of an alias's path, one for each byte of a key, two for
  -- each byte of a binary, eleven for each number of a vector
  pub data_length : ℕ → Tree → ℕ
  data_length most (string s) = most * length s
  data_length most (alias s) = most * length s
  data_length most (array ts) = data_lengths most ts
  data_length most (table es) = data_length_in most es
  data_length most (binary bs) = 2 * length bs
  data_length most (integer n) = 0
  data_length most (int_vector ns) = 11 * length ns

  -- the same of trees, added up
  pub data_lengths : ℕ → Trees → ℕ
  data_lengths most no_trees = 0
  data_lengths most (more_trees t ts) = data_length most t + data_lengths most ts

  -- the same of entries, added up, each key with its tree
  pub data_length_in : ℕ → Entries → ℕ
  data_length_in most no_entries = 0
  data_length_in most (entry k t es) = length k + data_length most t + data_length_in most es

-- the most bytes that the text of a bundle of this name and root may have in a form that writes a
-- byte of a string as at most this many: 270 for each resource, those of the name, and what the
-- strings, paths, keys, binaries and vectors add
abbrev pub text_limit : ℕ → List ℕ → Tree → ℕ
text_limit most name t = 270 * tree_count t + length name + data_length most t
