-- The order in which a tree's resources are laid: members in order, a table's by their keys, each
-- before its collection.
--     children t              the resources right inside t
--     laying_order t          all resources of t
--     texts_of t              the texts of its strings, as often as each stands there
--     keys_of t               the keys of its tables, as often as each stands there
--     trees_in rs             resources as trees
use Rattle.std.specs.Prelude.{ℕ, List, [], ◌∷◌, ◌++◌, map}
use Rattle.std.specs.List.{flat_map}
use Rattle.std.specs.Borrow.{Bor}
use Rattle.resb_tree.specs.Tree.{Tree, string, alias, array, table, binary, integer}
use Rattle.resb_tree.specs.Tree.{int_vector, Trees, no_trees, more_trees}
use Rattle.resb_tree.specs.Tree.{Entries, no_entries, entry}
use Rattle.resb_tree.specs.View.{tree_of}
use Rattle.resb_tree.specs.declared.resource.Resource.{Resource}

-- the members of an array, in their order
abbrev pub array_members : Trees → List Tree
array_members no_trees = []
array_members (more_trees t ts) = t ∷ array_members ts

-- the values of a table, in the order of its keys
abbrev pub values_of : Entries → List Tree
values_of no_entries = []
values_of (entry k t es) = t ∷ values_of es

-- the trees right inside a tree
abbrev pub children : Tree → List Tree
children (string s) = []
children (alias s) = []
children (array ts) = array_members ts
children (table es) = values_of es
children (binary s) = []
children (integer n) = []
children (int_vector s) = []

abbrev mutual
  -- the resources of a tree, members before their collection
  pub laying_order : Tree → List Tree
  laying_order (string s) = string s ∷ []
  laying_order (alias s) = alias s ∷ []
  laying_order (array ts) = laying_each ts ++ array ts ∷ []
  laying_order (table es) = laying_values es ++ table es ∷ []
  laying_order (binary s) = binary s ∷ []
  laying_order (integer n) = integer n ∷ []
  laying_order (int_vector s) = int_vector s ∷ []

  -- the resources of trees, one tree after another
  pub laying_each : Trees → List Tree
  laying_each no_trees = []
  laying_each (more_trees t ts) = laying_order t ++ laying_each ts

  -- the resources of the trees of entries, one after another
  pub laying_values : Entries → List Tree
  laying_values no_entries = []
  laying_values (entry k t es) = laying_order t ++ laying_values es

-- the text of a string; nothing of any other tree
abbrev pub text_in : Tree → List (List ℕ)
text_in (string s) = s ∷ []
text_in _ = []

-- the texts of a tree's strings in laying order, as often as each stands there
abbrev pub texts_of : Tree → List (List ℕ)
texts_of t = flat_map text_in (laying_order t)

-- the keys of entries, in their order
abbrev pub entry_keys : Entries → List (List ℕ)
entry_keys no_entries = []
entry_keys (entry k t es) = k ∷ entry_keys es

-- a table's own keys; other trees have none
abbrev pub own_keys : Tree → List (List ℕ)
own_keys (table es) = entry_keys es
own_keys _ = []

-- the keys of a tree's tables in laying order, as often as each stands there
abbrev pub keys_of : Tree → List (List ℕ)
keys_of t = flat_map own_keys (laying_order t)

-- the trees that resources stand for, in their order
abbrev pub trees_in : List (Bor Resource) → List Tree
trees_in rs = map (λ r. tree_of r.now) rs
