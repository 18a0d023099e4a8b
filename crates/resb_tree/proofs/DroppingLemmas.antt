-- Counts and depths of what is still to be dropped.
use Rattle.std.proofs.Common.{◌≡◌, ℕ, ◌+◌, ◌≤◌, max, List, [], ◌∷◌, ◌++◌, Ordering, Less, Equal}
use Rattle.std.proofs.Common.{Greater, nat_cmp, Vec, BTreeMap, Global, refl, ap}
use Rattle.std.proofs.Common.{arith, rules}
use Rattle.std.specs.BTreeMap.{insert_entry, values}
use Rattle.std.specs.Map.{values_of}
use Rattle.std.specs.Cmp.Lexicographic.{slice_cmp}
use Rattle.std.specs.Ordering.{match_ordering}
use Rattle.resb_tree.specs.Tree.{Tree, string, alias, array, table, binary, integer}
use Rattle.resb_tree.specs.Tree.{int_vector, no_trees, tree_count, entries_count}
use Rattle.resb_tree.specs.View.{tree_of, items_view, entries_view}
use Rattle.resb_tree.specs.declared.resource.Resource.{Resource, Array, Table, the_lemmas}
use Rattle.resb_tree.specs.Inner.Dropping.{count, counts, table_count, depth, depth_of}
use Rattle.resb_tree.proofs.ViewLemmas.{tree_of_array, tree_of_table}

-- a resource is itself at least
tree_is_one : (t : Tree) → 1 ≤ tree_count t
tree_is_one (string s) = omega arith
tree_is_one (alias s) = omega arith
tree_is_one (array ts) = omega arith
tree_is_one (table es) = omega arith
tree_is_one (binary s) = omega arith
tree_is_one (integer n) = omega arith
tree_is_one (int_vector s) = omega arith

pub count_is_one : (r : Resource) → 1 ≤ count r
count_is_one r = tree_is_one (tree_of r)

pub count_array : (v : Vec Resource Global) → count (Array v) ≡ counts v.items + 1
count_array v = ap tree_count (tree_of_array v)

pub count_table : (m : BTreeMap (List ℕ) Resource) → count (Table m) ≡ table_count m + 1
count_table m = ap tree_count (tree_of_table m)

pub counts_more : (rs : List Resource) (r : Resource)
    → counts (rs ++ r ∷ []) ≡ counts rs + count r
counts_more [] r = omega arith
counts_more (s ∷ rs) r = omega (arith, counts_more rs r)

pub entries_count_more : (es : List (List ℕ × Resource)) (p : List ℕ × Resource)
    → entries_count (entries_view (es ++ p ∷ [])) ≡ entries_count (entries_view es) + count p.1
entries_count_more [] p = omega arith
entries_count_more (e ∷ es) p = omega (arith, entries_count_more es p)

pub depth_array : (v : Vec Resource Global) → depth (Array v) ≡ depth_of v.items + 1
depth_array v = search (rules, the_lemmas)

pub depth_table : (m : BTreeMap (List ℕ) Resource) → depth (Table m) ≡ depth_of (values m) + 1
depth_table m = search (rules, the_lemmas)

pub depth_more : (rs : List Resource) (r : Resource)
    → depth_of (rs ++ r ∷ []) ≡ max (depth_of rs) (depth r)
depth_more [] r = omega arith
depth_more (s ∷ rs) r = omega (arith, depth_more rs r)

pub entries_depth_more : (es : List (List ℕ × Resource)) (p : List ℕ × Resource)
    → depth_of (values_of (es ++ p ∷ [])) ≡ max (depth_of (values_of es)) (depth p.1)
entries_depth_more [] p = omega arith
entries_depth_more (e ∷ es) p = omega (arith, entries_depth_more es p)

-- a list of no resources is empty
pub none_counted : (rs : List Resource) → counts rs ≡ 0 → rs ≡ []
none_counted [] e = refl
none_counted (r ∷ rs) e = absurd (omega (arith, count_is_one r))

pub no_entries_counted : (es : List (List ℕ × Resource)) → entries_count (entries_view es) ≡ 0
    → es ≡ []
no_entries_counted [] e = refl
no_entries_counted (p ∷ es) e = absurd (omega (arith, count_is_one p.1))

at_most : (o : Ordering) (a b c : List (List ℕ × Resource)) (n : ℕ)
    → entries_count (entries_view a) ≤ n → entries_count (entries_view b) ≤ n
    → entries_count (entries_view c) ≤ n → entries_count (entries_view (match_ordering o a b c)) ≤ n
at_most Less a b c n h k l = h
at_most Equal a b c n h k l = k
at_most Greater a b c n h k l = l

pub insert_count : (es : List (List ℕ × Resource)) (k : List ℕ) (v : Resource)
    → entries_count (entries_view (insert_entry (slice_cmp nat_cmp) es k v))
    ≤ entries_count (entries_view es) + count v
insert_count [] k v = omega arith
insert_count (e ∷ es) k v =
    at_most (slice_cmp nat_cmp k e.0) _ _ _ (entries_count (entries_view (e ∷ es)) + count v)
    (omega arith) (omega arith) (omega (arith, insert_count es k v))

no_deeper : (o : Ordering) (a b c : List (List ℕ × Resource)) (n : ℕ) → depth_of (values_of a) ≤ n
    → depth_of (values_of b) ≤ n → depth_of (values_of c) ≤ n
    → depth_of (values_of (match_ordering o a b c)) ≤ n
no_deeper Less a b c n h k l = h
no_deeper Equal a b c n h k l = k
no_deeper Greater a b c n h k l = l

pub insert_depth : (es : List (List ℕ × Resource)) (k : List ℕ) (v : Resource)
    → depth_of (values_of (insert_entry (slice_cmp nat_cmp) es k v))
    ≤ max (depth_of (values_of es)) (depth v)
insert_depth [] k v = omega arith
insert_depth (e ∷ es) k v =
    no_deeper (slice_cmp nat_cmp k e.0) _ _ _ (max (depth_of (values_of (e ∷ es))) (depth v))
    (omega arith) (omega arith) (omega (arith, insert_depth es k v))

-- an array of no trees has no resource inside
pub no_resource_inside : (v : Vec Resource Global) → tree_of (Array v) ≡ array no_trees
    → v.items ≡ []
no_resource_inside v e = none v.items (search (rules, tree_of_array v, e))
  where
    none : (rs : List Resource) → array (items_view rs) ≡ array no_trees → rs ≡ []
    none [] e = refl
    none (r ∷ rs) e = cc

-- what the steps of dropping go by
pub ruleset drop_steps = (
  count_is_one,
  count_array,
  count_table,
  depth_array,
  depth_table,
  depth_more,
  entries_depth_more,
  counts_more,
  entries_count_more,
  none_counted,
  no_entries_counted,
)

-- what an entry does that is put in
pub ruleset insert_steps = (insert_count, insert_depth)
