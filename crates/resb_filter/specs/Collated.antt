-- What binary forms of rules of collation make of a tree. (ICU's compiler puts the form of each
-- type's rules under `%%CollationBin`, beside the rules under `Sequence`.)
--     form_of fs k        the form that a list has for a type
--     with_form o t       a type's table with its form
--     collated fs t       the tree with the forms of a list
use Rattle.std.specs.Prelude.{ℕ, List, [], ◌∷◌, Option, Some, None, codes, if◌then◌else◌}
use Rattle.resb_tree.specs.Keys.{same_text}
use Rattle.resb_tree.specs.Tree.{Tree, table, binary}
use Rattle.resb_tree.specs.Tree.{Entries, no_entries, entry, put}

-- entries with each tree changed, by its key
abbrev pub each_entry : (List ℕ → Tree → Tree) → Entries → Entries
each_entry f no_entries = no_entries
each_entry f (entry k t es) = entry k (f k t) (each_entry f es)

-- a table with each tree in it changed; any other tree stays
abbrev pub each_inside : (List ℕ → Tree → Tree) → Tree → Tree
each_inside f (table es) = table (each_entry f es)
each_inside f t = t

-- the first form that is listed for a type of collation
abbrev pub form_of : List (List ℕ × List ℕ) → List ℕ → Option (List ℕ)
form_of [] k = None
form_of (f ∷ fs) k = if same_text f.0 k then Some f.1 else form_of fs k

-- a type's table with its form, which replaces an older one
abbrev pub with_form : Option (List ℕ) → Tree → Tree
with_form (Some form) (table es) = table (put (codes "%%CollationBin") (binary form) es)
with_form _ t = t

-- the tree at a key of the root: under `collations` each type with its form
abbrev pub at_root : List (List ℕ × List ℕ) → List ℕ → Tree → Tree
at_root fs k t =
    if same_text k (codes "collations") then each_inside (λ j. with_form (form_of fs j)) t else t

-- the tree with these forms
abbrev pub collated : List (List ℕ × List ℕ) → Tree → Tree
collated fs = each_inside (at_root fs)
