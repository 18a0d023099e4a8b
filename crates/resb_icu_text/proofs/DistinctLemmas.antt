-- A table that is made of entries has as many as these exactly where their keys are distinct.
use Rattle.std.proofs.Common.{◌≡◌, ℕ, ◌+◌, ◌≤◌, Bool, true, false, List, [], ◌∷◌, length, ◌&&◌}
use Rattle.std.proofs.Common.{BTreeMap, Bor, refl, sym, ap, ◌∙◌, subst, arith, cond, T, ◌↔◌}
use Rattle.std.proofs.lemmas.List.{length-map}
use Rattle.std.specs.Prelude.{Option, Some, None, nat_eq, not, ◌||◌, map}
use Rattle.std.specs.BTreeMap.{insert_entry, IsFromIterResult}
use Rattle.std.specs.Cmp.Lexicographic.{nat_list_cmp_total, pointwise, texts_ties}
use Rattle.std.specs.FinMap.Entries as fin
use Rattle.std.specs.List.{list_any}
use Rattle.std.specs.Option.{is_some}
use Rattle.std.specs.Ordering.{eq_by_cmp}
use Rattle.resb_tree.specs.Borrowing.{are_slice, each_entry}
use Rattle.resb_tree.specs.LayingOrder.{entry_keys, own_keys}
use Rattle.resb_tree.specs.Maps.{text_cmp}
use Rattle.resb_tree.specs.Tree.{Tree, table, entries_of, map_of}
use Rattle.resb_tree.specs.View.{tree_of, pairs_view}
use Rattle.resb_tree.specs.declared.resource.Resource.{Resource, Table}
use Rattle.resb_tree.proofs.AtOnce.{inserted, insert_is_put, made, made_view, turned, seen_by}
use Rattle.resb_tree.proofs.AtOnce.{inserted_seen}
use Rattle.resb_tree.proofs.BorrowingLemmas.{made_passes, table_passes}
use Rattle.resb_tree.proofs.ViewLemmas.{tree_of_table}
use Rattle.resb_icu_grammar.specs.Groups.{is_new}
use Rattle.resb_icu_grammar.specs.Machine.{AreDistinct}
use Rattle.resb_icu_text.specs.Borrowed.{passes}
use Rattle.resb_icu_text.specs.Inner.Build.{pairs_by}
use Rattle.resb_icu_text.specs.Inner.Kept.{Test, entries_pass}
use Rattle.resb_icu_text.proofs.Lists.{not_or_parts, cond_at_most, none_from_not_some}
use Rattle.resb_icu_text.proofs.Lists.{false_from_one_more, some_not_none}

-- entries by the texts of their keys
abbrev pub keyed : {V : Type 0} → List (Bor (List ℕ) × V) → List (List ℕ × V)
keyed es = map (λ e. (e.0.now, e.1)) es

-- entries by their keys, with the trees of their values
pub pairs_keyed : {V : Type 0} (tree : V → Tree) (es : List (Bor (List ℕ) × V))
    → pairs_by tree es ≡ seen_by tree (keyed es)
pairs_keyed tree [] = refl
pairs_keyed tree (e ∷ es) = ap (λ ps. (e.0.now, tree e.1) ∷ ps) (pairs_keyed tree es)

-- whether a key is new among the entries behind it, by the order of texts
is_new-cons : (k : List ℕ) (e : List ℕ × Tree) (es : List (List ℕ × Tree))
    → is_new k (e ∷ es)
    ≡ not (eq_by_cmp text_cmp k e.0 || list_any (λ f. pointwise nat_eq k f.0) es)
is_new-cons k e es =
    ap (λ b. not (b || list_any (λ f. pointwise nat_eq k f.0) es)) (texts_ties k e.0)

module _ {V : Type 0} (tree : V → Tree) where
  -- none of the pairs has a key of these entries
  abbrev AreNewTo : List (List ℕ × V) → List (List ℕ × V) → Type 0
  AreNewTo es [] = Unit {0}
  AreNewTo es (p ∷ ps) = (fin.find text_cmp p.0 es ≡ None) × AreNewTo es ps

  -- where a key is put into a map, the others stay new to it just where it is another and they were
  put_new : (es ps : List (List ℕ × V)) (k : List ℕ) (v : V)
      → AreNewTo (fin.put text_cmp k v es) ps
      ↔ ((is_new k (seen_by tree ps) ≡ true) × AreNewTo es ps)
  put_new es [] k v = (λ n. (refl, tt), λ h. tt)
  put_new es (p ∷ ps) k v =
      let new = is_new-cons k (p.0, tree p.1) (seen_by tree ps) in
      let found = fin.find-put text_cmp nat_list_cmp_total p.0 k v es in
      let more = put_new es ps k v in (
        λ n.
            let q = put_found (eq_by_cmp text_cmp p.0 k) (fin.find text_cmp p.0 es)
            (sym found ∙ n.0) in
            let rest = more.0 n.1 in (
              new ∙ ap (λ b. not (b || list_any (λ f. pointwise nat_eq k f.0) (seen_by tree ps)))
                  (turned k p.0 ∙ q.0) ∙ rest.0,
              (q.1, rest.1),
            ),
        λ h.
            let two = not_or_parts _ _ (sym new ∙ h.0) in (
              found ∙ ap (λ b. cond b (Some v) (fin.find text_cmp p.0 es)) (turned p.0 k ∙ two.0)
                  ∙ h.1.0,
              more.1 (two.1, h.1.1),
            ),
      )
    where
      put_found : (b : Bool) (o : Option V) → cond b (Some v) o ≡ None → (b ≡ false) × (o ≡ None)
      put_found true o s = absurd (some_not_none _ v refl s)
      put_found false o s = (refl, s)

  -- pairs are at most as many more entries, and as many where their keys are distinct and new
  counts : (es ps : List (List ℕ × V)) → T (fin.is_sorted text_cmp es)
      → (length (inserted es ps) ≤ length es + length ps)
      × ((length (inserted es ps) ≡ length es + length ps)
      ↔ (AreDistinct (seen_by tree ps) × AreNewTo es ps))
  counts es [] s = (omega arith, (λ h. (tt, tt), λ d. omega arith))
  counts es (p ∷ ps) s =
      let e = insert_is_put es p.0 p.1 in
      let now = insert_entry text_cmp es p.0 p.1 in
      let found = fin.find text_cmp p.0 es in
      let one : length now ≡ cond (is_some found) (length es) (length es + 1) =
      ap length e ∙ fin.length-put text_cmp nat_list_cmp_total p.0 p.1 es s in
      let low = cond_at_most (is_some found) (length es) in
      let more = counts now ps (subst (λ xs. T (fin.is_sorted text_cmp xs)) (sym e)
      (fin.is_sorted-put text_cmp nat_list_cmp_total p.0 p.1 es s)) in
      let put = put_new es ps p.0 p.1 in (
        omega (arith, more.0, one, low),
        (
          λ h.
              let exact : length now ≡ length es + 1 = omega (arith, h, more.0, one, low) in
              let rest = more.1.0 (omega (arith, h, exact)) in
              let behind = put.0 (subst (λ xs. AreNewTo xs ps) e rest.1) in
              let none = false_from_one_more _ (length es) (length now) one exact in
              ((behind.0, rest.0), (none_from_not_some _ none, behind.1)),
          λ d.
              let exact = one ∙ ap (λ o. cond (is_some o) (length es) (length es + 1)) d.1.0 in
              let rest = subst (λ xs. AreNewTo xs ps) (sym e) (put.1 (d.0.0, d.1.1)) in
              omega (arith, exact, more.1.1 (d.0.1, rest)),
        ),
      )

  all_new : (ps : List (List ℕ × V)) → AreNewTo [] ps
  all_new [] = tt
  all_new (p ∷ ps) = (refl, all_new ps)

  -- entries by borrowed keys become as many where their keys are distinct
  pub as_many_entries : (es : List (Bor (List ℕ) × V))
      → AreDistinct (pairs_by tree es) ↔ (length (inserted [] (keyed es)) ≡ length es)
  as_many_entries es =
      let many : length (keyed es) ≡ length es =
      length-map es (λ (e : Bor (List ℕ) × V). (e.0.now, e.1)) in
      let both = (counts [] (keyed es) tt).1 in (
        λ d. omega (
          arith,
          many,
          both.1 (subst AreDistinct (pairs_keyed tree es) d, all_new (keyed es)),
        ),
        λ h. subst AreDistinct (sym (pairs_keyed tree es)) (both.0 (omega (arith, h, many))).0,
      )

  keys_counted : (es : List (List ℕ × V))
      → length (entry_keys (entries_of (seen_by tree es))) ≡ length es
  keys_counted [] = refl
  keys_counted (e ∷ es) = omega (arith, keys_counted es)

  -- how many keys a table of entries has
  pub keys_count : (es : List (Bor (List ℕ) × V))
      → length (own_keys (table (map_of (pairs_by tree es)))) ≡ length (inserted [] (keyed es))
  keys_count es =
      ap (λ ps. length (entry_keys (map_of ps))) (pairs_keyed tree es)
      ∙ ap (λ fs. length (entry_keys fs)) (sym (inserted_seen tree [] (keyed es)))
      ∙ keys_counted (inserted [] (keyed es))

-- the table of entries that a map is made of at once
pub made_table : (es : List (Bor (List ℕ) × Resource)) (ps : List (List ℕ × Resource))
    (m : BTreeMap (List ℕ) Resource) → ps ≡ keyed es → IsFromIterResult text_cmp ps m
    → tree_of (Table m) ≡ table (map_of (pairs_by tree_of es))
made_table es ps m e h =
    tree_of_table m ∙ ap table (made_view ps m h
    ∙ ap (λ l. map_of (pairs_view l)) e ∙ ap map_of (sym (pairs_keyed tree_of es)))

-- how many entries it has
pub made_count : (es : List (Bor (List ℕ) × Resource)) (ps : List (List ℕ × Resource))
    (m : BTreeMap (List ℕ) Resource) → ps ≡ keyed es → IsFromIterResult text_cmp ps m
    → length m.entries ≡ length (inserted [] (keyed es))
made_count es ps m e h = ap length (made ps m h) ∙ ap (λ l. length (inserted [] l)) e

entries_keyed : (test : Test) (es : List (Bor (List ℕ) × Resource))
    → entries_pass es (λ r t. passes t r) test ≡ each_entry test (λ b. not (are_slice b)) (keyed es)
entries_keyed test [] = refl
entries_keyed test (e ∷ es) = ap (λ b. passes test e.1 && b) (entries_keyed test es)

-- and what it holds passes what its entries do
pub made_kept : (es : List (Bor (List ℕ) × Resource)) (ps : List (List ℕ × Resource))
    (m : BTreeMap (List ℕ) Resource) → ps ≡ keyed es → IsFromIterResult text_cmp ps m
    → (test : Test) → entries_pass es (λ r t. passes t r) test ≡ true → passes test (Table m) ≡ true
made_kept es ps m e h test k =
    table_passes test (λ b. not (are_slice b)) m
    ∙ made_passes test (λ b. not (are_slice b)) ps m h
    (ap (each_entry test (λ b. not (are_slice b))) e ∙ sym (entries_keyed test es) ∙ k)
