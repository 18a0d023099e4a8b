-- Without any one of the differences the old tree doesn't become the new one.
use Rattle.std.proofs.Common.{◌≡◌, ℕ, suc, zero, ◌+◌, ◌≤◌, List, [], ◌∷◌, ◌++◌, map, ◌⊎◌}
use Rattle.std.proofs.Common.{Bool, true, false, inl, inr, arith}
use Rattle.std.proofs.Common.{Option, Some, None, refl, sym, ap, ◌∙◌, subst}
use Rattle.std.proofs.Common.{Ordering, Less, Equal, Greater}
use Rattle.std.specs.Prelude.{if◌then◌else◌}
use Rattle.std.specs.List.{AllByRecursion}
use Rattle.std.specs.Ordering.{match_ordering}
use Rattle.resb_tree.specs.Tree.{Tree, array, table}
use Rattle.resb_tree.specs.Tree.{Trees, no_trees, more_trees, Entries}
use Rattle.resb_tree.specs.Tree.{no_entries, entry}
use Rattle.resb_tree.specs.Equality.{tree_eq}
use Rattle.resb_tree.specs.Inner.EqualityLemmas.{tree_eq_decides}
use Rattle.resb_tree.specs.Maps.{text_cmp, get, AreMaps, AreMapsIn, AreMapsOf}
use Rattle.std.proofs.lemmas.Bool.{false≢true}
use Rattle.resb_diff.specs.Differences.{Step, by_key, by_number}
use Rattle.resb_diff.specs.Differences.{Difference, added, removed, changed, differences}
use Rattle.resb_diff.specs.Differences.{member_differences, added_members, entry_differences}
use Rattle.resb_diff.specs.Differences.{added_entries}
use Rattle.resb_diff.specs.Applied.{entry_first, with_key, with_number, with_at, applied, path_of}
use Rattle.resb_diff.proofs.LawLemmas.{own_key, one_key}
use Rattle.resb_diff.proofs.SoLemmas.{Beyond, AllBeyond, Ascends, ascends, all_further, turned}
use Rattle.resb_diff.proofs.BehindLemmas.{behind, shifted, all_behind, at_number, added_shifted}
use Rattle.resb_diff.proofs.BehindLemmas.{members_shifted}
use Rattle.resb_diff.proofs.AppliedLemmas.{AllIn, IsDeep, HasStep, FirstBeyond}
use Rattle.resb_diff.proofs.AppliedLemmas.{array_tail, table_tail}
use Rattle.resb_diff.proofs.PlaceLemmas.{added_in, members_in, added_beyond, entries_beyond, deep}
use Rattle.resb_diff.proofs.GivesLemmas.{one_array, one_table, one_tree, by_ordering}
use Rattle.resb_diff.proofs.GivesLemmas.{array_remove, array_add, array_both}
use Rattle.resb_diff.proofs.GivesLemmas.{table_remove, table_add, table_both}

-- differences without one of them
abbrev pub OneLess : List Difference → List Difference → Type 0
OneLess [] es = ⊥
OneLess (d ∷ ds) es = (es ≡ ds) ⊎ ((fs : List Difference) × (es ≡ d ∷ fs) × OneLess ds fs)

pub left_out : (es fs : List Difference) (d : Difference) → OneLess (es ++ d ∷ fs) (es ++ fs)
left_out [] fs d = inl refl
left_out (e ∷ es) fs d = inr (es ++ fs, refl, left_out es fs d)

less_append : (ds es zs : List Difference) → OneLess (ds ++ es) zs
    → ((fs : List Difference) × (zs ≡ fs ++ es) × OneLess ds fs)
    ⊎ ((fs : List Difference) × (zs ≡ ds ++ fs) × OneLess es fs)
less_append [] es zs h = inr (zs, refl, h)
less_append (d ∷ ds) es zs (inl e) = inl (ds, e, inl refl)
less_append (d ∷ ds) es zs (inr w) =
    elim (less_append ds es w.0 w.2) [
      | inl c ↦ inl (d ∷ c.0, w.1 ∙ ap (λ l. d ∷ l) c.1, inr (c.0, refl, c.2))
      | inr c ↦ inr (c.0, w.1 ∙ ap (λ l. d ∷ l) c.1, c.2)
    ]

less_map : (f : Difference → Difference) (ds zs : List Difference) → OneLess (map f ds) zs
    → (fs : List Difference) × (zs ≡ map f fs) × OneLess ds fs
less_map f [] zs h = absurd h
less_map f (d ∷ ds) zs (inl e) = (ds, e, inl refl)
less_map f (d ∷ ds) zs (inr w) =
    let c = less_map f ds w.0 w.2 in
    (d ∷ c.0, w.1 ∙ ap (λ l. f d ∷ l) c.1, inr (c.0, refl, c.2))

less_all : (P : Difference → Type 0) (ds zs : List Difference) → AllByRecursion P ds
    → OneLess ds zs → AllByRecursion P zs
less_all P [] zs h o = absurd o
less_all P (d ∷ ds) zs h (inl e) = subst (λ l. AllByRecursion P l) (sym e) h.1
less_all P (d ∷ ds) zs h (inr w) =
    subst (λ l. AllByRecursion P l) (sym w.1) (h.0, less_all P ds w.0 h.1 w.2)

-- without any one of the differences the first tree doesn't become the second
abbrev pub NoneLess : List Difference → Tree → Tree → Type 0
NoneLess ds t u = (zs : List Difference) → OneLess ds zs → applied zs (Some t) ≡ Some u → ⊥

first_same : (x y : Tree) (v w : Trees) → Some (array (more_trees x v)) ≡ Some (array (more_trees y w))
    → x ≡ y
first_same x y v w e = cc

rest_same : (x y : Tree) (v w : Trees) → Some (array (more_trees x v)) ≡ Some (array (more_trees y w))
    → v ≡ w
rest_same x y v w e = cc

key_same : (k l : List ℕ) (x y : Tree) (v w : Entries)
    → Some (table (entry k x v)) ≡ Some (table (entry l y w)) → k ≡ l
key_same k l x y v w e = cc

value_same : (k l : List ℕ) (x y : Tree) (v w : Entries)
    → Some (table (entry k x v)) ≡ Some (table (entry l y w)) → x ≡ y
value_same k l x y v w e = cc

entries_same : (k l : List ℕ) (x y : Tree) (v w : Entries)
    → Some (table (entry k x v)) ≡ Some (table (entry l y w)) → v ≡ w
entries_same k l x y v w e = cc

not_less : (o : Ordering) → o ≡ Equal → o ≡ Less → ⊥
not_less o e f = cc

-- how many trees there are
abbrev pub count : Trees → ℕ
count no_trees = 0
count (more_trees t ts) = count ts + 1

number_count : (n : ℕ) (u : Tree) (ts : Trees) → count (with_number n (Some u) ts) ≤ count ts + 1
number_count n u no_trees = omega arith
number_count zero u (more_trees t ts) = omega arith
number_count (suc n) u (more_trees t ts) = omega (arith, number_count n u ts)

-- additions add no more trees than they are
added_count : (n : ℕ) (us ts : Trees)
    → (w : Trees) × (applied (added_members [] n us) (Some (array ts)) ≡ Some (array w))
    × (count w ≤ count ts + count us)
added_count n no_trees ts = (ts, refl, omega arith)
added_count n (more_trees u us) ts =
    let r = added_count (n + 1) us (with_number n (Some u) ts) in
    (r.0, r.1, omega (arith, number_count n u ts, r.2))

too_many : (w us : Trees) (u : Tree) → w ≡ more_trees u us → count w ≤ 0 + count us → ⊥
too_many w us u e h = omega (arith, ap count e)

added_needed : (us : Trees) → NoneLess (added_members [] 0 us) (array no_trees) (array us)
added_needed no_trees zs h e = h
added_needed (more_trees u us) zs (inl s) e =
    let r = added_count 1 us no_trees in
    too_many r.0 us u
    (one_array r.0 (more_trees u us)
    (sym r.1 ∙ ap (λ ds. applied ds (Some (array no_trees))) (sym s) ∙ e)) r.2
added_needed (more_trees u us) zs (inr w) e =
    let c = less_map shifted (added_members [] 0 us) w.0
    (subst (λ ds. OneLess ds w.0) (added_shifted 0 us) w.2) in
    let r = array_add u c.0 (less_all (λ d. HasStep (path_of d)) _ c.0 (added_in 0 us) c.2) in
    added_needed us c.0 c.2
    (r.1 ∙ ap (λ v. Some (array v)) (rest_same u u r.0 us
    (sym r.2 ∙ ap (λ ds. applied ds (Some (array no_trees)))
    (sym (w.1 ∙ ap (λ ds. added (by_number 0 ∷ []) u ∷ ds) c.1)) ∙ e)))

some_array : (x : Tree) (v : Trees) → Some (array (more_trees x v)) ≡ Some (array no_trees) → ⊥
some_array x v e = cc

some_table : (k : List ℕ) (x : Tree) (v : Entries)
    → Some (table (entry k x v)) ≡ Some (table no_entries) → ⊥
some_table k x v e = cc

removed_needed : (ts : Trees)
    → NoneLess (member_differences [] 0 ts no_trees) (array ts) (array no_trees)
removed_needed no_trees zs h e = h
removed_needed (more_trees t ts) zs (inl s) e =
    let r = array_tail (member_differences [] 0 ts no_trees) (members_in 0 ts no_trees) ts in
    some_array t r.0
    (sym (r.2 t)
    ∙ ap (λ ds. applied ds (Some (array (more_trees t ts))))
    (sym (s ∙ members_shifted 0 ts no_trees)) ∙ e)
removed_needed (more_trees t ts) zs (inr w) e =
    let c = less_map shifted (member_differences [] 0 ts no_trees) w.0
    (subst (λ ds. OneLess ds w.0) (members_shifted 0 ts no_trees) w.2) in
    let r = array_remove t ts c.0
    (less_all (λ d. HasStep (path_of d)) _ c.0 (members_in 0 ts no_trees) c.2) in
    removed_needed ts c.0 c.2
    (r.1 ∙ sym r.2 ∙ ap (λ ds. applied ds (Some (array (more_trees t ts))))
    (sym (w.1 ∙ ap (λ ds. removed (by_number 0 ∷ []) t ∷ ds) c.1)) ∙ e)

-- differences inside the first member and behind it
both_needed : (t u : Tree) (ts us : Trees) (ds es : List Difference) → AllByRecursion IsDeep ds
    → AllIn HasStep es → NoneLess ds t u → NoneLess es (array ts) (array us)
    → NoneLess (map (behind (by_number 0)) ds ++ map shifted es) (array (more_trees t ts))
    (array (more_trees u us))
both_needed t u ts us ds es d h f g zs o e =
    elim (less_append (map (behind (by_number 0)) ds) (map shifted es) zs o) [
      | inl c ↦
          let b = less_map (behind (by_number 0)) ds c.0 c.2 in
          let r = array_both t ts b.0 es (less_all IsDeep ds b.0 d b.2) h in
          f b.0 b.2 (r.2 ∙ ap Some (first_same r.0 u r.1 us
          (sym r.4 ∙ ap (λ l. applied l (Some (array (more_trees t ts))))
          (sym (c.1 ∙ ap (λ l. l ++ map shifted es) b.1)) ∙ e)))
      | inr c ↦
          let b = less_map shifted es c.0 c.2 in
          let r = array_both t ts ds b.0 d
          (less_all (λ x. HasStep (path_of x)) es b.0 h b.2) in
          g b.0 b.2 (r.3 ∙ ap (λ v. Some (array v)) (rest_same r.0 u r.1 us
          (sym r.4 ∙ ap (λ l. applied l (Some (array (more_trees t ts))))
          (sym (c.1 ∙ ap (λ l. map (behind (by_number 0)) ds ++ l) b.1)) ∙ e)))
    ]

first_beyond : (l q : List ℕ) (o : Option Tree) (es : Entries) → Beyond (Some l) q
    → AllBeyond (Some l) es → AllBeyond (Some l) (entry_first q o es)
first_beyond l q None es b h = h
first_beyond l q (Some t) es b h = (b, h)

at_order_beyond : (l : List ℕ) (r : Ordering) (a b c : Entries) → AllBeyond (Some l) a
    → AllBeyond (Some l) b → AllBeyond (Some l) c → AllBeyond (Some l) (match_ordering r a b c)
at_order_beyond l Less a b c x y z = x
at_order_beyond l Equal a b c x y z = y
at_order_beyond l Greater a b c x y z = z

key_beyond : (l q : List ℕ) (o : Option Tree) (es : Entries) → Beyond (Some l) q
    → AllBeyond (Some l) es → AllBeyond (Some l) (with_key q o es)
key_beyond l q o no_entries b h = first_beyond l q o no_entries b h
key_beyond l q o (entry k t es) b h =
    at_order_beyond l (text_cmp q k) _ _ _ (first_beyond l q o (entry k t es) b h)
    (first_beyond l q o es b h.1) (h.0, key_beyond l q o es b h.1)

path_beyond : (l : List ℕ) (p : List Step) (o : Option Tree) (es : Entries)
    → FirstBeyond (Some l) p → AllBeyond (Some l) es
    → (w : Entries) × (with_at p o (Some (table es)) ≡ Some (table w)) × AllBeyond (Some l) w
path_beyond l [] o es h b = absurd h
path_beyond l (by_number n ∷ p) o es h b = absurd h
path_beyond l (by_key q ∷ p) o es h b =
    (with_key q (with_at p o (get q es)) es, refl, key_beyond l q (with_at p o (get q es)) es h b)

-- differences at keys behind one leave that one out
stays_beyond : (l : List ℕ) (ds : List Difference) → AllIn (FirstBeyond (Some l)) ds
    → (es : Entries) → AllBeyond (Some l) es
    → (w : Entries) × (applied ds (Some (table es)) ≡ Some (table w)) × AllBeyond (Some l) w
stays_beyond l [] h es b = (es, refl, b)
stays_beyond l (added p u ∷ ds) h es b =
    let s = path_beyond l p (Some u) es h.0 b in
    let r = stays_beyond l ds h.1 s.0 s.2 in (r.0, ap (applied ds) s.1 ∙ r.1, r.2)
stays_beyond l (changed p t u ∷ ds) h es b =
    let s = path_beyond l p (Some u) es h.0 b in
    let r = stays_beyond l ds h.1 s.0 s.2 in (r.0, ap (applied ds) s.1 ∙ r.1, r.2)
stays_beyond l (removed p t ∷ ds) h es b =
    let r = stays_beyond l ds h.1 es b in
    let s = path_beyond l p None r.0 h.0 r.2 in (s.0, ap (with_at p None) r.1 ∙ s.1, s.2)

remove_needed : (k : List ℕ) (t : Tree) (es fs : Entries) (ds : List Difference)
    → AllIn (FirstBeyond (Some k)) ds → NoneLess ds (table es) (table fs)
    → ((v : Entries) → Some (table (entry k t v)) ≡ Some (table fs) → ⊥)
    → NoneLess (removed (by_key k ∷ []) t ∷ ds) (table (entry k t es)) (table fs)
remove_needed k t es fs ds h f other zs (inl s) e =
    let r = table_tail k ds h es in
    other r.0 (sym (r.2 t) ∙ ap (λ l. applied l (Some (table (entry k t es)))) (sym s) ∙ e)
remove_needed k t es fs ds h f other zs (inr w) e =
    let r = table_remove k t es w.0
    (less_all (λ d. FirstBeyond (Some k) (path_of d)) ds w.0 h w.2) in
    f w.0 w.2
    (r.1 ∙ sym r.2 ∙ ap (λ l. applied l (Some (table (entry k t es)))) (sym w.1) ∙ e)

add_needed : (l : List ℕ) (u : Tree) (es fs : Entries) (ds : List Difference)
    → AllBeyond (Some l) es → AllIn (FirstBeyond (Some l)) ds
    → NoneLess ds (table es) (table fs)
    → NoneLess (added (by_key l ∷ []) u ∷ ds) (table es) (table (entry l u fs))
add_needed l u es fs ds b h f zs (inl s) e =
    let r = stays_beyond l ds h es b in
    let beyond = subst (λ v. AllBeyond (Some l) v)
    (one_table r.0 (entry l u fs)
    (sym r.1 ∙ ap (λ x. applied x (Some (table es))) (sym s) ∙ e)) r.2 in
    not_less (text_cmp l l) (own_key l) beyond.0
add_needed l u es fs ds b h f zs (inr w) e =
    let r = table_add l u es w.0 b
    (less_all (λ d. FirstBeyond (Some l) (path_of d)) ds w.0 h w.2) in
    f w.0 w.2
    (r.1 ∙ ap (λ v. Some (table v)) (entries_same l l u u r.0 fs
    (sym r.2 ∙ ap (λ x. applied x (Some (table es))) (sym w.1) ∙ e)))

-- differences inside the first entry and behind it
inside_needed : (k l : List ℕ) (t u : Tree) (es fs : Entries) (ds hs : List Difference)
    → AllByRecursion IsDeep ds → AllIn (FirstBeyond (Some k)) hs → NoneLess ds t u
    → NoneLess hs (table es) (table fs)
    → NoneLess (map (behind (by_key k)) ds ++ hs) (table (entry k t es)) (table (entry l u fs))
inside_needed k l t u es fs ds hs d h f g zs o e =
    elim (less_append (map (behind (by_key k)) ds) hs zs o) [
      | inl c ↦
          let b = less_map (behind (by_key k)) ds c.0 c.2 in
          let r = table_both k t es b.0 hs (less_all IsDeep ds b.0 d b.2) h in
          f b.0 b.2 (r.2 ∙ ap Some (value_same k l r.0 u r.1 fs
          (sym r.4 ∙ ap (λ x. applied x (Some (table (entry k t es))))
          (sym (c.1 ∙ ap (λ x. x ++ hs) b.1)) ∙ e)))
      | inr c ↦
          let r = table_both k t es ds c.0 d
          (less_all (λ x. FirstBeyond (Some k) (path_of x)) hs c.0 h c.2) in
          g c.0 c.2 (r.3 ∙ ap (λ v. Some (table v)) (entries_same k l r.0 u r.1 fs
          (sym r.4 ∙ ap (λ x. applied x (Some (table (entry k t es)))) (sym c.1) ∙ e)))
    ]

added_entries_needed : (fs : Entries) → Ascends fs
    → NoneLess (added_entries [] fs) (table no_entries) (table fs)
added_entries_needed no_entries a = λ zs h e. h
added_entries_needed (entry l u fs) a =
    add_needed l u no_entries fs (added_entries [] fs) tt (added_beyond (Some l) fs a.0)
    (added_entries_needed fs a.1)

next_needed : (k : List ℕ) (t : Tree) (es : Entries) → AllBeyond (Some k) es
    → ((u : Tree) → AreMaps u → NoneLess (differences [] t u) t u)
    → ((gs : Entries) → Ascends gs → AreMapsOf gs
    → NoneLess (entry_differences [] es gs) (table es) (table gs))
    → (fs : Entries) → Ascends fs → AreMapsOf fs
    → NoneLess (entry_differences [] (entry k t es) fs) (table (entry k t es)) (table fs)
next_needed k t es above inside after no_entries a m =
    remove_needed k t es no_entries (entry_differences [] es no_entries)
    (entries_beyond (Some k) es no_entries above tt) (after no_entries tt tt)
    (λ v. some_table k t v)
next_needed k t es above inside after (entry l u fs) a m =
    by_ordering (λ ds. NoneLess ds (table (entry k t es)) (table (entry l u fs)))
    (text_cmp k l) _ _ _
    (λ e.
    remove_needed k t es (entry l u fs) (entry_differences [] es (entry l u fs))
    (entries_beyond (Some k) es (entry l u fs) above (e, all_further k l fs e a.0))
    (after (entry l u fs) a m)
    (λ v same. not_less (text_cmp k l)
    (ap (λ j. text_cmp k j) (sym (key_same k l t u v fs same)) ∙ own_key k) e))
    (λ e.
    subst (λ ds. NoneLess (ds ++ entry_differences [] es fs) (table (entry k t es))
    (table (entry l u fs))) (sym (all_behind (by_key k) [] t u))
    (inside_needed k l t u es fs (differences [] t u) (entry_differences [] es fs) (deep t u)
    (entries_beyond (Some k) es fs above
    (subst (λ j. AllBeyond (Some j) fs) (sym (one_key k l e)) a.0))
    (inside u m.0) (after fs a.1 m.1)))
    (λ e.
    let before : text_cmp l k ≡ Less = turned k l Greater e in
    add_needed l u (entry k t es) fs (entry_differences [] (entry k t es) fs)
    (before, all_further l k es before above)
    (entries_beyond (Some l) (entry k t es) fs (before, all_further l k es before above) a.0)
    (next_needed k t es above inside after fs a.1 m.1))

whole_needed : (t u : Tree) (b : Bool) → tree_eq t u ≡ b
    → NoneLess (if b then [] else changed [] t u ∷ []) t u
whole_needed t u true e zs h f = h
whole_needed t u false e zs (inl s) f =
    false≢true (sym e ∙ (tree_eq_decides t u).1
    (one_tree t u (ap (λ ds. applied ds (Some t)) (sym s) ∙ f)))
whole_needed t u false e zs (inr w) f = w.2

mutual
  pub needed : (t u : Tree) → AreMaps t → AreMaps u → NoneLess (differences [] t u) t u
  needed (array ts) (array us) m n = members_needed ts us m n
  needed (table es) (table fs) m n =
      entries_needed es fs (ascends es m.0) m.1 (ascends fs n.0) n.1
  needed t u m n = whole_needed t u (tree_eq t u) refl

  members_needed : (ts us : Trees) → AreMapsIn ts → AreMapsIn us
      → NoneLess (member_differences [] 0 ts us) (array ts) (array us)
  members_needed no_trees us m n = added_needed us
  members_needed (more_trees t ts) no_trees m n = removed_needed (more_trees t ts)
  members_needed (more_trees t ts) (more_trees u us) m n =
      subst (λ ds. NoneLess ds (array (more_trees t ts)) (array (more_trees u us)))
      (sym (λ i. at_number 0 t u i ++ members_shifted 0 ts us i))
      (both_needed t u ts us (differences [] t u) (member_differences [] 0 ts us) (deep t u)
      (members_in 0 ts us) (needed t u m.0 n.0) (members_needed ts us m.1 n.1))

  entries_needed : (es fs : Entries) → Ascends es → AreMapsOf es → Ascends fs → AreMapsOf fs
      → NoneLess (entry_differences [] es fs) (table es) (table fs)
  entries_needed no_entries fs a m c n = added_entries_needed fs c
  entries_needed (entry k t es) fs a m c n =
      next_needed k t es a.0 (λ u w. needed t u m.0 w)
      (λ gs x y. entries_needed es gs a.1 m.1 x y) fs c n
