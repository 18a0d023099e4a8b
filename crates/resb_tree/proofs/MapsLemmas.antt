-- Tables as finite maps: putting, finding, and pairs that ascend already.
use Rattle.std.specs.Prelude.{◌≡◌, ℕ, List, [], ◌∷◌, ◌++◌, Some, cond, T}
use Rattle.std.specs.Ordering.{match_ordering, ordering_reverse, eq_by_cmp, is_lt}
use Rattle.std.specs.Cmp.Lexicographic.{nat_list_cmp_total}
use Rattle.std.specs.List.{AllByRecursion}
use Rattle.std.specs.List.Sorted.{IsStrictlySortedBy}
use Rattle.std.specs.Map.{keys_of}
use Rattle.std.specs.FinMap.{slice_cmp-IsAntisymmetric, nat_cmp-IsAntisymmetric}
use Rattle.std.specs.FinMap.Entries as fin
use Rattle.std.proofs.Common.{Ordering, Less, Equal, Greater, refl, sym, ap, ◌∙◌, subst}
use Rattle.std.proofs.Common.{append_assoc, append-nil}
use Rattle.resb_tree.specs.Tree.{Tree, table, Entries, no_entries, entry, entries_of, put, put_all}
use Rattle.resb_tree.specs.Tree.{map_of}
use Rattle.resb_tree.specs.View.{entries_view}
use Rattle.resb_tree.specs.Maps.{text_cmp, keyed_trees, get, IsMap, AreMaps, AreMapsOf}
use Rattle.resb_tree.specs.declared.resource.Resource.{Resource}
use Rattle.resb_tree.specs.LayingOrder.{entry_keys}
use Rattle.resb_tree.proofs.Numbers.{both_true}

-- entries that are listed are put together again
pub entries_of-keyed_trees : (es : Entries) → entries_of (keyed_trees es) ≡ es
entries_of-keyed_trees no_entries = refl
entries_of-keyed_trees (entry k t es) = ap (entry k t) (entries_of-keyed_trees es)

keyed_trees_at : (o : Ordering) (a b c : Entries)
    → keyed_trees (match_ordering o a b c)
    ≡ fin.by_order o (keyed_trees a) (keyed_trees b) (keyed_trees c)
keyed_trees_at Less a b c = refl
keyed_trees_at Equal a b c = refl
keyed_trees_at Greater a b c = refl

pub keyed_trees-put : (k : List ℕ) (t : Tree) (es : Entries)
    → keyed_trees (put k t es) ≡ fin.put text_cmp k t (keyed_trees es)
keyed_trees-put k t no_entries = refl
keyed_trees-put k t (entry l u es) =
    keyed_trees_at (text_cmp k l) _ _ _
    ∙ ap (λ qs. fin.by_order (text_cmp k l) ((k, t) ∷ (l, u) ∷ keyed_trees es)
    ((l, t) ∷ keyed_trees es)
    ((l, u) ∷ qs)) (keyed_trees-put k t es)

-- what was put at a key is found there, and the other keys keep their trees
pub get-put : (q k : List ℕ) (t : Tree) (es : Entries)
    → get q (put k t es) ≡ cond (eq_by_cmp text_cmp q k) (Some t) (get q es)
get-put q k t es =
    ap (fin.find text_cmp q) (keyed_trees-put k t es)
    ∙ fin.find-put text_cmp nat_list_cmp_total q k t (keyed_trees es)

pub IsMap-put : (k : List ℕ) (t : Tree) (es : Entries) → IsMap es → IsMap (put k t es)
IsMap-put k t es h =
    subst (λ ps. T (fin.is_sorted text_cmp ps)) (sym (keyed_trees-put k t es))
    (fin.is_sorted-put text_cmp nat_list_cmp_total k t (keyed_trees es) h)

-- two maps that answer alike are equal
pub same_map : (es fs : Entries) → IsMap es → IsMap fs → ((q : List ℕ) → get q es ≡ get q fs)
    → es ≡ fs
same_map es fs g h alike =
    sym (entries_of-keyed_trees es)
    ∙ ap entries_of (fin.same_entries text_cmp nat_list_cmp_total
    (slice_cmp-IsAntisymmetric nat_cmp-IsAntisymmetric) (keyed_trees es) (keyed_trees fs) g h alike)
    ∙ entries_of-keyed_trees fs

below_middle : (first : List ℕ × Tree) (es : List (List ℕ × Tree)) (e : List ℕ × Tree)
    (more : List (List ℕ × Tree))
    → AllByRecursion (λ y. text_cmp first.0 y ≡ Less) (keys_of (es ++ e ∷ more))
    → text_cmp first.0 e.0 ≡ Less
below_middle first [] e more h = h.0
below_middle first (x ∷ es) e more h = below_middle first es e more h.1

-- a key that is above those before it goes last
pub put_last : (done : List (List ℕ × Tree)) (e : List ℕ × Tree) (more : List (List ℕ × Tree))
    → IsStrictlySortedBy text_cmp (keys_of (done ++ e ∷ more))
    → put e.0 e.1 (entries_of done) ≡ entries_of (done ++ e ∷ [])
unfolding IsStrictlySortedBy
put_last [] e more h = refl
put_last (first ∷ done) e more h =
    let above : text_cmp e.0 first.0 ≡ Greater = nat_list_cmp_total.antisymm e.0 first.0
    ∙ ap ordering_reverse (below_middle first done e more h.0) in
    rw above (ap (entry first.0 first.1) (put_last done e more h.1))

put_all_after : (done ps : List (List ℕ × Tree))
    → IsStrictlySortedBy text_cmp (keys_of (done ++ ps))
    → put_all (entries_of done) ps ≡ entries_of (done ++ ps)
put_all_after done [] h = ap entries_of (sym (append-nil done))
put_all_after done (p ∷ ps) h =
    rw (put_last done p ps h)
    (put_all_after (done
    ++ p ∷ []) ps (subst (λ qs. IsStrictlySortedBy text_cmp (keys_of qs))
    (sym (append_assoc done (p ∷ []) ps)) h)
    ∙ ap entries_of (append_assoc done (p ∷ []) ps))

-- pairs that ascend already are the entries of their map: what a writer of a `BTreeMap` needs
pub map_of-sorted : (ps : List (List ℕ × Tree)) → IsStrictlySortedBy text_cmp (keys_of ps)
    → map_of ps ≡ entries_of ps
map_of-sorted ps h = put_all_after [] ps h

below : (k : List ℕ) (es : List (List ℕ × Resource))
    → AllByRecursion (λ y. text_cmp k y ≡ Less) (keys_of es)
    → T (fin.below_all text_cmp k (keyed_trees (entries_view es)))
below k [] h = tt
below k (e ∷ es) h =
    both_true (is_lt (text_cmp k e.0)) _ (subst (λ o. T (is_lt o)) (sym h.0) tt) (below k es h.1)

-- a table's keys strictly ascend
pub IsMap-view : (es : List (List ℕ × Resource)) → IsStrictlySortedBy text_cmp (keys_of es)
    → IsMap (entries_view es)
unfolding IsStrictlySortedBy
IsMap-view [] h = tt
IsMap-view (e ∷ es) h =
    both_true (fin.below_all text_cmp e.0 (keyed_trees (entries_view es))) _ (below e.0 es h.0)
    (IsMap-view es h.1)

-- entries that are put into maps of maps
pub AreMapsOf-put : (k : List ℕ) (t : Tree) (es : Entries) → AreMaps t → AreMapsOf es
    → AreMapsOf (put k t es)
AreMapsOf-put k t no_entries h all = (h, tt)
AreMapsOf-put k t (entry l u es) h all =
    at_order (text_cmp k l) (entry k t (entry l u es)) (entry l t es) (entry l u (put k t es))
    (h, all) (h, all.1) (all.0, AreMapsOf-put k t es h all.1)
  where
    at_order : (o : Ordering) (a b c : Entries) → AreMapsOf a → AreMapsOf b → AreMapsOf c
        → AreMapsOf (match_ordering o a b c)
    at_order Less a b c x y z = x
    at_order Equal a b c x y z = y
    at_order Greater a b c x y z = z

-- trees of maps
abbrev pub AllAreMaps : List (List ℕ × Tree) → Type 0
AllAreMaps [] = Unit {0}
AllAreMaps (p ∷ ps) = AreMaps p.1 × AllAreMaps ps

put_all_maps : (es : Entries) (ps : List (List ℕ × Tree)) → IsMap es → AreMapsOf es → AllAreMaps ps
    → IsMap (put_all es ps) × AreMapsOf (put_all es ps)
put_all_maps es [] is all h = (is, all)
put_all_maps es (p ∷ ps) is all h =
    put_all_maps (put p.0 p.1 es) ps (IsMap-put p.0 p.1 es is) (AreMapsOf-put p.0 p.1 es h.0 all)
    h.1

-- a table of trees of maps
pub AreMaps-map_of : (ps : List (List ℕ × Tree)) → AllAreMaps ps → AreMaps (table (map_of ps))
AreMaps-map_of ps h = put_all_maps no_entries ps tt tt h

-- the keys of entries that are listed
keys_of-keyed_trees : (es : Entries) → keys_of (keyed_trees es) ≡ entry_keys es
keys_of-keyed_trees no_entries = refl
keys_of-keyed_trees (entry k t es) = ap (λ ks. k ∷ ks) (keys_of-keyed_trees es)

-- entries that ascend are their own map
pub map_of-keyed_trees : (es : Entries) → IsStrictlySortedBy text_cmp (entry_keys es)
    → map_of (keyed_trees es) ≡ es
map_of-keyed_trees es h =
    map_of-sorted (keyed_trees es)
    (subst (IsStrictlySortedBy text_cmp) (sym (keys_of-keyed_trees es)) h)
    ∙ entries_of-keyed_trees es

-- the keys of a table, read off its view, are those of its map
pub entry_keys-entries_view : (es : List (List ℕ × Resource))
    → entry_keys (entries_view es) ≡ keys_of es
entry_keys-entries_view [] = refl
entry_keys-entries_view (e ∷ es) = ap (λ l. e.0 ∷ l) (entry_keys-entries_view es)
