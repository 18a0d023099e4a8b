-- The keys of a table, and what a map has at each.
use Rattle.std.proofs.Common.{◌≡◌, ℕ, List, [], ◌∷◌, length, Some}
use Rattle.std.proofs.Common.{refl, sym, ◌∙◌, ap, arith}
use Rattle.resb_tree.specs.Tree.{Entries, no_entries, entry, Trees, no_trees, more_trees}
use Rattle.resb_tree.specs.View.{entries_view}
use Rattle.resb_tree.specs.declared.resource.Resource.{Resource}
use Rattle.resb_layout.specs.Laid.{Given, ArePlaced}
use Rattle.std.proofs.lemmas.List.{length-map}
use Rattle.resb_tree.specs.LayingOrder.{array_members, entry_keys, values_of}

-- a table without values has no entries
pub no_values : (es : Entries) → length (values_of es) ≡ 0 → es ≡ no_entries
no_values no_entries e = refl
no_values (entry k t es) e = absurd (omega (arith, e))

-- an array without members is empty
pub no_members : (ts : Trees) → length (array_members ts) ≡ 0 → ts ≡ no_trees
no_members no_trees e = refl
no_members (more_trees t ts) e = absurd (omega (arith, e))

pub values_long : (es : List (List ℕ × Resource)) → length es ≡ length (values_of (entries_view es))
values_long [] = refl
values_long (e ∷ es) = omega (arith, values_long es)

pub keys_values : (es : Entries) → length (entry_keys es) ≡ length (values_of es)
keys_values no_entries = refl
keys_values (entry k t es) = omega (arith, keys_values es)

pub placed_long : (g : Given) (ks : List (List ℕ)) (ps : List ℕ) → ArePlaced g ks ps
    → length ps ≡ length ks
placed_long g ks ps a = sym (length-map ps Some) ∙ ap length (sym a.positions)
    ∙ length-map ks g.position
