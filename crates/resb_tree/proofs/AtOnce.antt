-- A map that is made at once has the entries of one into which the pairs are put in turn.
use Rattle.std.proofs.Common.{◌≡◌, ℕ, Bool, true, List, [], ◌∷◌, BTreeMap, Ordering}
use Rattle.std.proofs.Common.{Less, Equal, Greater, refl, sym, ap, ◌∙◌, subst}
use Rattle.std.specs.Prelude.{cond, Option, Some, None, T, map}
use Rattle.std.proofs.lemmas.Bool.{and_from, and_parts}
use Rattle.std.specs.BTreeMap.{insert_entry, is_at, IsFromIterResult}
use Rattle.std.specs.Cmp.Lexicographic.{nat_list_cmp_total}
use Rattle.std.specs.FinMap.{slice_cmp-IsAntisymmetric, nat_cmp-IsAntisymmetric}
use Rattle.std.specs.FinMap.Entries as fin
use Rattle.std.specs.List.{AllByRecursion}
use Rattle.std.specs.List.Sorted.{IsStrictlySortedBy}
use Rattle.std.specs.Map.{keys_of, lookup, update, update_all}
use Rattle.std.specs.Ordering.{match_ordering, is_eq, is_lt, eq_by_cmp}
use Rattle.resb_tree.specs.Borrowing.{all_true}
use Rattle.resb_tree.specs.Maps.{text_cmp}
use Rattle.resb_tree.specs.Tree.{Tree, entries_of, put, put_all, map_of}
use Rattle.resb_tree.specs.View.{tree_of, entries_view, pairs_view}
use Rattle.resb_tree.specs.declared.resource.Resource.{Resource}
use Rattle.resb_tree.proofs.Numbers.{both_true, eq_reversed}

-- two keys are equal in either order
pub turned : (k q : List ℕ) → eq_by_cmp text_cmp k q ≡ eq_by_cmp text_cmp q k
turned k q = ap is_eq (nat_list_cmp_total.antisymm k q) ∙ eq_reversed (text_cmp q k)

module _ {V : Type 0} where
  -- the entries with the pairs put in turn
  abbrev pub inserted : List (List ℕ × V) → List (List ℕ × V) → List (List ℕ × V)
  inserted es [] = es
  inserted es (p ∷ ps) = inserted (insert_entry text_cmp es p.0 p.1) ps

  by_orders : (o : Ordering) (a b c d : List (List ℕ × V)) → c ≡ d
      → match_ordering o a b c ≡ fin.by_order o a b d
  by_orders Less a b c d h = refl
  by_orders Equal a b c d h = refl
  by_orders Greater a b c d h = h

  -- an insert into a map is a put into its entries
  pub insert_is_put : (es : List (List ℕ × V)) (k : List ℕ) (v : V)
      → insert_entry text_cmp es k v ≡ fin.put text_cmp k v es
  insert_is_put [] k v = refl
  insert_is_put (e ∷ es) k v =
      by_orders (text_cmp k e.0) _ _ _ _ (ap (λ xs. e ∷ xs) (insert_is_put es k v))

  get_is_find : (q : List ℕ) (es : List (List ℕ × V))
      → lookup (is_at (text_cmp q)) es ≡ fin.find text_cmp q es
  get_is_find q [] = refl
  get_is_find q (e ∷ es) = ap (cond (is_eq (text_cmp q e.0)) (Some e.1)) (get_is_find q es)

  -- what is found in the entries is what the function has that the pairs are put into
  found : (f : List ℕ → Option V) (es ps : List (List ℕ × V))
      → ((q : List ℕ) → f q ≡ fin.find text_cmp q es) → (q : List ℕ)
      → update_all (eq_by_cmp text_cmp) f ps q ≡ fin.find text_cmp q (inserted es ps)
  found f es [] h q = h q
  found f es (p ∷ ps) h q =
      found (update (eq_by_cmp text_cmp) f p.0 (Some p.1)) (insert_entry text_cmp es p.0 p.1) ps
      (λ r. ap (λ b. cond b (Some p.1) (f r)) (turned p.0 r)
      ∙ ap (cond (eq_by_cmp text_cmp r p.0) (Some p.1)) (h r)
      ∙ sym (fin.find-put text_cmp nat_list_cmp_total r p.0 p.1 es)
      ∙ ap (fin.find text_cmp r) (sym (insert_is_put es p.0 p.1))) q

  inserted_ascend : (es ps : List (List ℕ × V)) → T (fin.is_sorted text_cmp es)
      → T (fin.is_sorted text_cmp (inserted es ps))
  inserted_ascend es [] h = h
  inserted_ascend es (p ∷ ps) h =
      inserted_ascend (insert_entry text_cmp es p.0 p.1) ps
      (subst (λ xs. T (fin.is_sorted text_cmp xs)) (sym (insert_is_put es p.0 p.1))
      (fin.is_sorted-put text_cmp nat_list_cmp_total p.0 p.1 es h))

  below : (k : List ℕ) (es : List (List ℕ × V))
      → AllByRecursion (λ y. text_cmp k y ≡ Less) (keys_of es) → T (fin.below_all text_cmp k es)
  below k [] h = tt
  below k (e ∷ es) h =
      both_true (is_lt (text_cmp k e.0)) _ (subst (λ o. T (is_lt o)) (sym h.0) tt) (below k es h.1)

  ascend : (es : List (List ℕ × V)) → IsStrictlySortedBy text_cmp (keys_of es)
      → T (fin.is_sorted text_cmp es)
  unfolding IsStrictlySortedBy
  ascend [] h = tt
  ascend (e ∷ es) h =
      both_true (fin.below_all text_cmp e.0 es) _ (below e.0 es h.0) (ascend es h.1)

  -- entries that ascend, in which is found what the pairs put in turn have, are those of a map into
  -- which the pairs are put
  pub made_entries : (ps es : List (List ℕ × V)) → IsStrictlySortedBy text_cmp (keys_of es)
      → ((q : List ℕ) → lookup (is_at (text_cmp q)) es
      ≡ update_all (eq_by_cmp text_cmp) (λ _. None) ps q) → es ≡ inserted [] ps
  made_entries ps es s h =
      fin.same_entries text_cmp nat_list_cmp_total
      (slice_cmp-IsAntisymmetric nat_cmp-IsAntisymmetric) es (inserted [] ps)
      (ascend es s) (inserted_ascend [] ps tt)
      (λ q. sym (get_is_find q es) ∙ h q ∙ found (λ _. None) [] ps (λ r. refl) q)

  -- a map that is made at once has the entries of one into which the pairs are put
  pub made : (ps : List (List ℕ × V)) (m : BTreeMap (List ℕ) V)
      → IsFromIterResult text_cmp ps m → m.entries ≡ inserted [] ps
  made ps m h = made_entries ps m.entries h.1 h.0

  module _ (tree : V → Tree) where
    -- entries, each value seen as its tree
    abbrev pub seen_by : List (List ℕ × V) → List (List ℕ × Tree)
    seen_by es = map (λ p. (p.0, tree p.1)) es

    seen_at : (o : Ordering) (a b c : List (List ℕ × V))
        → entries_of (seen_by (match_ordering o a b c))
        ≡ match_ordering o (entries_of (seen_by a)) (entries_of (seen_by b))
        (entries_of (seen_by c))
    seen_at Less a b c = refl
    seen_at Equal a b c = refl
    seen_at Greater a b c = refl

    insert_seen : (es : List (List ℕ × V)) (k : List ℕ) (v : V)
        → entries_of (seen_by (insert_entry text_cmp es k v))
        ≡ put k (tree v) (entries_of (seen_by es))
    insert_seen [] k v = refl
    insert_seen (e ∷ es) k v = seen_at (text_cmp k e.0) _ _ _ ∙ rw (insert_seen es k v)

    -- pairs that are inserted are put, as their trees
    pub inserted_seen : (es ps : List (List ℕ × V))
        → entries_of (seen_by (inserted es ps)) ≡ put_all (entries_of (seen_by es)) (seen_by ps)
    inserted_seen es [] = refl
    inserted_seen es (p ∷ ps) =
        inserted_seen (insert_entry text_cmp es p.0 p.1) ps
        ∙ ap (λ old. put_all old (seen_by ps)) (insert_seen es p.0 p.1)

  module _ (test : V → Bool) where
    -- whether each value passes the test
    abbrev pub values_pass : List (List ℕ × V) → Bool
    values_pass es = all_true (map (λ p. test p.1) es)

    pass_at : (o : Ordering) (a b c : List (List ℕ × V)) → values_pass a ≡ true
        → values_pass b ≡ true → values_pass c ≡ true
        → values_pass (match_ordering o a b c) ≡ true
    pass_at Less a b c h k l = h
    pass_at Equal a b c h k l = k
    pass_at Greater a b c h k l = l

    insert_pass : (es : List (List ℕ × V)) (k : List ℕ) (v : V) → test v ≡ true
        → values_pass es ≡ true → values_pass (insert_entry text_cmp es k v) ≡ true
    insert_pass [] k v h all = and_from (test v) true h refl
    insert_pass (e ∷ es) k v h all =
        pass_at (text_cmp k e.0) _ _ _ (and_from _ _ h all)
        (and_from _ _ h (and_parts _ _ all).1)
        (and_from _ _ (and_parts _ _ all).0 (insert_pass es k v h (and_parts _ _ all).1))

    -- pairs whose values pass are inserted into entries whose values do
    pub inserted_pass : (es ps : List (List ℕ × V)) → values_pass es ≡ true
        → values_pass ps ≡ true → values_pass (inserted es ps) ≡ true
    inserted_pass es [] h k = h
    inserted_pass es (p ∷ ps) h k =
        inserted_pass (insert_entry text_cmp es p.0 p.1) ps
        (insert_pass es p.0 p.1 (and_parts _ _ k).0 h) (and_parts _ _ k).1

-- a map that is made at once is the table of its pairs
pub made_view : (ps : List (List ℕ × Resource)) (m : BTreeMap (List ℕ) Resource)
    → IsFromIterResult text_cmp ps m → entries_view m.entries ≡ map_of (pairs_view ps)
made_view ps m h = ap entries_view (made ps m h) ∙ inserted_seen tree_of [] ps
