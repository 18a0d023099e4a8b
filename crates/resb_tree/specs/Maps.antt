-- A tree's table as a finite map: entries whose keys strictly ascend, so that equal maps are equal
-- entries.
use Rattle.std.specs.Prelude.{ℕ, List, [], ◌∷◌, Option, T}
use Rattle.std.specs.Ordering.{nat_cmp}
use Rattle.std.specs.Cmp.Lexicographic.{slice_cmp}
use Rattle.std.specs.FinMap.Entries as fin
use Rattle.std.specs.declared.cmp.Ordering.{Ordering}
use Rattle.resb_tree.specs.Tree.{Tree, string, alias, array, table, binary, integer}
use Rattle.resb_tree.specs.Tree.{int_vector, Trees, no_trees, more_trees}
use Rattle.resb_tree.specs.Tree.{Entries, no_entries, entry}

-- texts are ordered by their bytes
abbrev pub text_cmp : List ℕ → List ℕ → Ordering
text_cmp = slice_cmp nat_cmp

-- the keys and trees in order
abbrev pub keyed_trees : Entries → List (List ℕ × Tree)
keyed_trees no_entries = []
keyed_trees (entry k t es) = (k, t) ∷ keyed_trees es

-- the tree at the key q
abbrev pub get : List ℕ → Entries → Option Tree
get q es = fin.find text_cmp q (keyed_trees es)

-- the keys of entries strictly ascend by their bytes
abbrev pub IsMap : Entries → Type 0
IsMap es = T (fin.is_sorted text_cmp (keyed_trees es))

-- each table in the tree is such a map
abbrev mutual
  -- each table in a tree is a map
  pub AreMaps : Tree → Type 0
  AreMaps (array ts) = AreMapsIn ts
  AreMaps (table es) = IsMap es × AreMapsOf es
  AreMaps (string s) = Unit {0}
  AreMaps (alias s) = Unit {0}
  AreMaps (binary s) = Unit {0}
  AreMaps (integer n) = Unit {0}
  AreMaps (int_vector s) = Unit {0}

  -- each table in each of these trees is a map
  pub AreMapsIn : Trees → Type 0
  AreMapsIn no_trees = Unit {0}
  AreMapsIn (more_trees t ts) = AreMaps t × AreMapsIn ts

  -- each table in the tree of each entry is a map
  pub AreMapsOf : Entries → Type 0
  AreMapsOf no_entries = Unit {0}
  AreMapsOf (entry k t es) = AreMaps t × AreMapsOf es
