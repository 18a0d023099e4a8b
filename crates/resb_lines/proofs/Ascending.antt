-- The keys of a map ascend.
use Rattle.std.specs.Prelude.{◌≡◌, ℕ, List, Bool, true, false, T, ◌&&◌}
use Rattle.std.specs.Ordering.{is_lt}
use Rattle.std.specs.FinMap.Entries as fin
use Rattle.std.specs.List.{AllByRecursion}
use Rattle.std.specs.List.Sorted.{IsStrictlySortedBy}
use Rattle.std.proofs.Common.{Ordering, Less, Equal, Greater, refl}
use Rattle.resb_tree.specs.LayingOrder.{entry_keys}
use Rattle.resb_tree.specs.Maps.{text_cmp, keyed_trees, IsMap}
use Rattle.resb_tree.specs.Tree.{Entries, no_entries, entry}

both_parts : (a b : Bool) → T (a && b) → T a × T b
both_parts true b h = (tt, h)
both_parts false b h = absurd h

less_than : (o : Ordering) → T (is_lt o) → o ≡ Less
less_than Less h = refl
less_than Equal h = absurd h
less_than Greater h = absurd h

above : (k : List ℕ) (es : Entries) → T (fin.below_all text_cmp k (keyed_trees es))
    → AllByRecursion (λ y. text_cmp k y ≡ Less) (entry_keys es)
above k no_entries h = tt
above k (entry l u es) h =
    let r = both_parts (is_lt (text_cmp k l)) (fin.below_all text_cmp k (keyed_trees es)) h in
    (less_than (text_cmp k l) r.0, above k es r.1)

pub keys_ascend : (es : Entries) → IsMap es → IsStrictlySortedBy text_cmp (entry_keys es)
unfolding IsStrictlySortedBy
keys_ascend no_entries h = tt
keys_ascend (entry k t es) h =
    let r = both_parts (fin.below_all text_cmp k (keyed_trees es))
    (fin.is_sorted text_cmp (keyed_trees es)) h in
    (above k es r.0, keys_ascend es r.1)
