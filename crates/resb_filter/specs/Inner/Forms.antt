-- Forms of types of collation, by the types' keys.
--     form_in m k         the form that a map has for a type
--     at_root_by form k t the tree at a key of the root, where types have these forms
use Rattle.std.specs.Prelude.{ℕ, List, Option, codes, option_map, if◌then◌else◌}
use Rattle.std.specs.Borrow.{Bor}
use Rattle.indexmap.specs.IndexMap.{IndexMap, get_by}
use Rattle.resb_tree.specs.Keys.{same_text}
use Rattle.resb_tree.specs.Tree.{Tree}
use Rattle.resb_filter.specs.Collated.{each_inside, with_form}

-- the form that a map has for a type
abbrev pub form_in : {H : Type 0} → IndexMap (Bor (List ℕ)) (Bor (List ℕ)) H → List ℕ
    → Option (List ℕ)
form_in m k = option_map (λ b. b.now) (get_by (λ j. same_text k j.now) m)

-- the tree at a key of the root: under `collations` each type with its form
abbrev pub at_root_by : (List ℕ → Option (List ℕ)) → List ℕ → Tree → Tree
at_root_by form k t =
    if same_text k (codes "collations") then each_inside (λ j. with_form (form j)) t else t
