-- A `Resource` level by level, and lists of resources beside the trees that they stand for.
use Rattle.std.proofs.Common.{◌≡◌, ℕ, List, [], ◌∷◌, Vec, BTreeMap, Global, Ordering}
use Rattle.std.proofs.Common.{Less, Equal, Greater, nat_cmp, length, ◌+◌, ap, add-one}
use Rattle.std.proofs.Common.{refl, ◌∙◌, rules}
use Rattle.std.specs.BTreeMap.{insert_entry}
use Rattle.std.specs.Cow.{cow_str_bytes, cow_slice_items}
use Rattle.std.specs.declared.borrow.CowStr.{CowStr}
use Rattle.std.specs.declared.borrow.CowSlice.{CowSlice}
use Rattle.std.specs.Cmp.Lexicographic.{slice_cmp}
use Rattle.std.specs.Ordering.{match_ordering}
use Rattle.resb_tree.specs.Tree.{string, alias, array, table, binary, integer, int_vector}
use Rattle.resb_tree.specs.Tree.{entries_len, put}
use Rattle.resb_tree.specs.View.{tree_of, items_view, entries_view}
use Rattle.resb_tree.specs.declared.resource.Resource.{Resource, Array, Table, the_lemmas}
use Rattle.resb_tree.specs.declared.resource.Resource.{String, Alias, Binary, Integer}
use Rattle.resb_tree.specs.declared.resource.Resource.{IntVector}

-- the tree of an array has the trees of its items
pub tree_of_array : (v : Vec Resource Global) → tree_of (Array v) ≡ array (items_view v.items)
tree_of_array v = search (rules, the_lemmas)

-- the tree of a table has its map's entries
pub tree_of_table : (m : BTreeMap (List ℕ) Resource)
    → tree_of (Table m) ≡ table (entries_view m.entries)
tree_of_table m = search (rules, the_lemmas)

-- the tree of a string is its text
pub tree_of_string : (s : CowStr Global) → tree_of (String s) ≡ string (cow_str_bytes s)
tree_of_string s = search (rules, the_lemmas)

-- of an alias its path
pub tree_of_alias : (s : CowStr Global) → tree_of (Alias s) ≡ alias (cow_str_bytes s)
tree_of_alias s = search (rules, the_lemmas)

-- of a binary its bytes
pub tree_of_binary : (b : CowSlice ℕ Global) → tree_of (Binary b) ≡ binary (cow_slice_items b)
tree_of_binary b = search (rules, the_lemmas)

-- of an integer its number
pub tree_of_integer : (n : ℕ) → tree_of (Integer n) ≡ integer n
tree_of_integer n = search (rules, the_lemmas)

-- of a vector its numbers
pub tree_of_vector : (v : Vec ℕ Global) → tree_of (IntVector v) ≡ int_vector v.items
tree_of_vector v = search (rules, the_lemmas)

-- a table's view has as many entries as its map
pub entries_len_view : (es : List (List ℕ × Resource)) → entries_len (entries_view es) ≡ length es
entries_len_view [] = refl
entries_len_view (e ∷ es) = ap (λ n. n + 1) (entries_len_view es) ∙ add-one _

at_ordering : (o : Ordering) (a b c : List (List ℕ × Resource))
    → entries_view (match_ordering o a b c) ≡ match_ordering o (entries_view a) (entries_view b)
    (entries_view c)
at_ordering Less a b c = refl
at_ordering Equal a b c = refl
at_ordering Greater a b c = refl

-- an insert into a `BTreeMap` puts the resource's tree
pub entries_view_insert : (es : List (List ℕ × Resource)) (k : List ℕ) (v : Resource)
    → entries_view (insert_entry (slice_cmp nat_cmp) es k v) ≡ put k (tree_of v) (entries_view es)
entries_view_insert [] k v = refl
entries_view_insert (e ∷ es) k v =
    at_ordering (slice_cmp nat_cmp k e.0) _ _ _ ∙ rw (entries_view_insert es k v)
