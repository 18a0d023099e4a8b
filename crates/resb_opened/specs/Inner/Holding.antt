-- What stands at a member, beside its tree.
--     Holds p c t     what a content of a file has inside is what the tree has
use Rattle.std.specs.Prelude.{◌≡◌, ℕ, List}
use Rattle.resb_tree.specs.Tree.{Tree, string, alias, array, table, binary, integer, int_vector}
use Rattle.resb_tree.specs.Tree.{Trees, no_trees, map_of}
use Rattle.resb_format.specs.Content.{Member, Content, leaf, list, entry_list}
use Rattle.resb_format.specs.Denotes.{DenEntries}
use Rattle.resb_format.specs.Parts.{Parts}
use Rattle.resb_opened.specs.Ahead.{EachDenotes}
use Rattle.resb_opened.specs.Handles.{members_in, entries_in}

-- the members of an array; of any other tree none
abbrev pub trees_in : Tree → Trees
trees_in (array ts) = ts
trees_in (string s) = no_trees
trees_in (alias s) = no_trees
trees_in (table es) = no_trees
trees_in (binary bytes) = no_trees
trees_in (integer n) = no_trees
trees_in (int_vector ns) = no_trees

-- the entries denote pairs, of which the last of each key stand in the table
abbrev pub EntriesDenote : Parts → List (ℕ × Member) → Tree → Type 0
EntriesDenote p es t =
    ∥ ((ts : List (List ℕ × Tree)) × (n : ℕ) × DenEntries p es ts n × (entries_in t ≡ map_of ts)) ∥₁

-- the tree is the leaf itself; or an array, whose members the content's denote; or a table, whose
-- entries the content's denote
abbrev pub Holds : Parts → Content → Tree → Type 0
Holds p (leaf u) t = t ≡ u
Holds p (list ms) t = (t ≡ array (trees_in t)) × EachDenotes p ms (members_in t)
Holds p (entry_list es) t = (t ≡ table (entries_in t)) × EntriesDenote p es t
