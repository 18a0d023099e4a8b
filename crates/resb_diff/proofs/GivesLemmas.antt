-- The old tree with the differences carried out is the new one.
use Rattle.std.proofs.Common.{◌≡◌, ℕ, List, [], ◌∷◌, ◌++◌, map, Bool, true, false}
use Rattle.std.proofs.Common.{Some, None, refl, sym, ap, ◌∙◌, subst}
use Rattle.std.proofs.Common.{Ordering, Less, Equal, Greater}
use Rattle.std.specs.Prelude.{if◌then◌else◌}
use Rattle.std.specs.List.{AllByRecursion}
use Rattle.std.specs.Ordering.{match_ordering}
use Rattle.resb_tree.specs.Tree.{Tree, array, table}
use Rattle.resb_tree.specs.Tree.{Trees, no_trees, more_trees, Entries}
use Rattle.resb_tree.specs.Tree.{no_entries, entry}
use Rattle.resb_tree.specs.Equality.{tree_eq}
use Rattle.resb_tree.specs.Inner.EqualityLemmas.{tree_eq_decides}
use Rattle.resb_tree.specs.Maps.{text_cmp, AreMaps, AreMapsIn, AreMapsOf}
use Rattle.resb_diff.specs.Differences.{by_key, by_number}
use Rattle.resb_diff.specs.Differences.{Difference, added, removed, changed, differences}
use Rattle.resb_diff.specs.Differences.{member_differences, added_members, entry_differences}
use Rattle.resb_diff.specs.Differences.{added_entries}
use Rattle.resb_diff.specs.Applied.{with_key, with_at, applied}
use Rattle.resb_diff.proofs.LawLemmas.{one_key}
use Rattle.resb_diff.proofs.SoLemmas.{AllBeyond, Ascends, ascends, all_further, turned}
use Rattle.resb_diff.proofs.BehindLemmas.{behind, shifted, all_behind, at_number, added_shifted}
use Rattle.resb_diff.proofs.BehindLemmas.{members_shifted}
use Rattle.resb_diff.proofs.AppliedLemmas.{AllIn, IsDeep, HasStep, FirstBeyond}
use Rattle.resb_diff.proofs.AppliedLemmas.{array_tail, array_head, table_tail, table_head}
use Rattle.resb_diff.proofs.AppliedLemmas.{key_before, key_here}
use Rattle.resb_diff.proofs.PlaceLemmas.{added_in, members_in, added_beyond, entries_beyond, deep}

pub one_array : (v w : Trees) → Some (array v) ≡ Some (array w) → v ≡ w
one_array v w e = cc

pub one_table : (v w : Entries) → Some (table v) ≡ Some (table w) → v ≡ w
one_table v w e = cc

pub one_tree : (x y : Tree) → Some x ≡ Some y → x ≡ y
one_tree x y e = cc

-- what carrying out one more difference does: the first member is removed
pub array_remove : (t : Tree) (ts : Trees) (ds : List Difference) → AllIn HasStep ds
    → (w : Trees) × (applied ds (Some (array ts)) ≡ Some (array w))
    × (applied (removed (by_number 0 ∷ []) t ∷ map shifted ds) (Some (array (more_trees t ts)))
    ≡ Some (array w))
array_remove t ts ds h =
    let r = array_tail ds h ts in (r.0, r.1, ap (with_at (by_number 0 ∷ []) None) (r.2 t))

-- a first member is added
pub array_add : (u : Tree) (ds : List Difference) → AllIn HasStep ds
    → (w : Trees) × (applied ds (Some (array no_trees)) ≡ Some (array w))
    × (applied (added (by_number 0 ∷ []) u ∷ map shifted ds) (Some (array no_trees))
    ≡ Some (array (more_trees u w)))
array_add u ds h = let r = array_tail ds h no_trees in (r.0, r.1, r.2 u)

-- something is done inside the first member
pub array_both : (t : Tree) (ts : Trees) (ds es : List Difference) → AllByRecursion IsDeep ds
    → AllIn HasStep es
    → (y : Tree) × (w : Trees) × (applied ds (Some t) ≡ Some y)
    × (applied es (Some (array ts)) ≡ Some (array w))
    × (applied (map (behind (by_number 0)) ds ++ map shifted es) (Some (array (more_trees t ts)))
    ≡ Some (array (more_trees y w)))
array_both t ts ds es d h =
    let r = array_tail es h ts in
    let q = array_head ds d (map shifted es) ts r.0 r.2 t in (q.0, r.0, q.1, r.1, q.2)

-- the first entry is removed
pub table_remove : (k : List ℕ) (t : Tree) (es : Entries) (ds : List Difference)
    → AllIn (FirstBeyond (Some k)) ds
    → (w : Entries) × (applied ds (Some (table es)) ≡ Some (table w))
    × (applied (removed (by_key k ∷ []) t ∷ ds) (Some (table (entry k t es))) ≡ Some (table w))
table_remove k t es ds h =
    let r = table_tail k ds h es in (
      r.0,
      r.1,
      ap (with_at (by_key k ∷ []) None) (r.2 t) ∙ ap (λ v. Some (table v)) (key_here k None t r.0),
    )

comes_first : (l : List ℕ) (u : Tree) (es : Entries) → AllBeyond (Some l) es
    → with_key l (Some u) es ≡ entry l u es
comes_first l u no_entries h = refl
comes_first l u (entry k t es) h = key_before l k (Some u) t es h.0

-- a first entry is added
pub table_add : (l : List ℕ) (u : Tree) (es : Entries) (ds : List Difference)
    → AllBeyond (Some l) es → AllIn (FirstBeyond (Some l)) ds
    → (w : Entries) × (applied ds (Some (table es)) ≡ Some (table w))
    × (applied (added (by_key l ∷ []) u ∷ ds) (Some (table es)) ≡ Some (table (entry l u w)))
table_add l u es ds b h =
    let r = table_tail l ds h es in
    (r.0, r.1, ap (λ v. applied ds (Some (table v))) (comes_first l u es b) ∙ r.2 u)

-- something is done inside the first entry
pub table_both : (k : List ℕ) (t : Tree) (es : Entries) (ds fs : List Difference)
    → AllByRecursion IsDeep ds → AllIn (FirstBeyond (Some k)) fs
    → (y : Tree) × (w : Entries) × (applied ds (Some t) ≡ Some y)
    × (applied fs (Some (table es)) ≡ Some (table w))
    × (applied (map (behind (by_key k)) ds ++ fs) (Some (table (entry k t es)))
    ≡ Some (table (entry k y w)))
table_both k t es ds fs d h =
    let r = table_tail k fs h es in
    let q = table_head k ds d fs es r.0 r.2 t in (q.0, r.0, q.1, r.1, q.2)

added_give : (us : Trees)
    → applied (added_members [] 0 us) (Some (array no_trees)) ≡ Some (array us)
added_give no_trees = refl
added_give (more_trees u us) =
    let r = array_add u (added_members [] 0 us) (added_in 0 us) in
    ap (λ ds. applied (added (by_number 0 ∷ []) u ∷ ds) (Some (array no_trees)))
    (added_shifted 0 us) ∙ r.2
    ∙ ap (λ v. Some (array (more_trees u v))) (one_array r.0 us (sym r.1 ∙ added_give us))

removed_give : (ts : Trees)
    → applied (member_differences [] 0 ts no_trees) (Some (array ts)) ≡ Some (array no_trees)
removed_give no_trees = refl
removed_give (more_trees t ts) =
    let ds = member_differences [] 0 ts no_trees in
    let r = array_remove t ts ds (members_in 0 ts no_trees) in
    ap (λ es. applied (removed (by_number 0 ∷ []) t ∷ es) (Some (array (more_trees t ts))))
    (members_shifted 0 ts no_trees) ∙ r.2
    ∙ ap (λ v. Some (array v)) (one_array r.0 no_trees (sym r.1 ∙ removed_give ts))

added_entries_give : (fs : Entries) → Ascends fs
    → applied (added_entries [] fs) (Some (table no_entries)) ≡ Some (table fs)
added_entries_give no_entries a = refl
added_entries_give (entry l u fs) a =
    let r = table_add l u no_entries (added_entries [] fs) tt (added_beyond (Some l) fs a.0) in
    r.2 ∙ ap (λ v. Some (table (entry l u v))) (one_table r.0 fs (sym r.1 ∙ added_entries_give fs a.1))

-- the pieces of a walk through two tables do what their order says
pub by_ordering : (P : List Difference → Type 0) (o : Ordering) (a b c : List Difference)
    → (o ≡ Less → P a) → (o ≡ Equal → P b) → (o ≡ Greater → P c) → P (match_ordering o a b c)
by_ordering P Less a b c f g h = f refl
by_ordering P Equal a b c f g h = g refl
by_ordering P Greater a b c f g h = h refl

next_gives : (k : List ℕ) (t : Tree) (es : Entries) → AllBeyond (Some k) es
    → ((u : Tree) → AreMaps u → applied (differences [] t u) (Some t) ≡ Some u)
    → ((gs : Entries) → Ascends gs → AreMapsOf gs
    → applied (entry_differences [] es gs) (Some (table es)) ≡ Some (table gs))
    → (fs : Entries) → Ascends fs → AreMapsOf fs
    → applied (entry_differences [] (entry k t es) fs) (Some (table (entry k t es)))
    ≡ Some (table fs)
next_gives k t es above inside after no_entries a m =
    let r = table_remove k t es (entry_differences [] es no_entries)
    (entries_beyond (Some k) es no_entries above tt) in
    r.2 ∙ ap (λ v. Some (table v)) (one_table r.0 no_entries (sym r.1 ∙ after no_entries tt tt))
next_gives k t es above inside after (entry l u fs) a m =
    by_ordering (λ ds. applied ds (Some (table (entry k t es))) ≡ Some (table (entry l u fs)))
    (text_cmp k l) _ _ _
    (λ e.
    let r = table_remove k t es (entry_differences [] es (entry l u fs))
    (entries_beyond (Some k) es (entry l u fs) above (e, all_further k l fs e a.0)) in
    r.2 ∙ ap (λ v. Some (table v))
    (one_table r.0 (entry l u fs) (sym r.1 ∙ after (entry l u fs) a m)))
    (λ e.
    let same = one_key k l e in
    let r = table_both k t es (differences [] t u) (entry_differences [] es fs) (deep t u)
    (entries_beyond (Some k) es fs above
    (subst (λ j. AllBeyond (Some j) fs) (sym same) a.0)) in
    ap (λ ds. applied (ds ++ entry_differences [] es fs) (Some (table (entry k t es))))
    (all_behind (by_key k) [] t u) ∙ r.4
    ∙ (λ i. Some (table (entry (same i)
    (one_tree r.0 u (sym r.2 ∙ inside u m.0) i)
    (one_table r.1 fs (sym r.3 ∙ after fs a.1 m.1) i)))))
    (λ e.
    let before : text_cmp l k ≡ Less = turned k l Greater e in
    let r = table_add l u (entry k t es) (entry_differences [] (entry k t es) fs)
    (before, all_further l k es before above)
    (entries_beyond (Some l) (entry k t es) fs
    (before, all_further l k es before above) a.0) in
    r.2 ∙ ap (λ v. Some (table (entry l u v)))
    (one_table r.0 fs (sym r.1 ∙ next_gives k t es above inside after fs a.1 m.1)))

whole_gives : (t u : Tree) (b : Bool) → tree_eq t u ≡ b
    → applied (if b then [] else changed [] t u ∷ []) (Some t) ≡ Some u
whole_gives t u true e = ap Some ((tree_eq_decides t u).0 e)
whole_gives t u false e = refl

mutual
  pub gives : (t u : Tree) → AreMaps t → AreMaps u
      → applied (differences [] t u) (Some t) ≡ Some u
  gives (array ts) (array us) m n = members_give ts us m n
  gives (table es) (table fs) m n =
      entries_give es fs (ascends es m.0) m.1 (ascends fs n.0) n.1
  gives t u m n = whole_gives t u (tree_eq t u) refl

  members_give : (ts us : Trees) → AreMapsIn ts → AreMapsIn us
      → applied (member_differences [] 0 ts us) (Some (array ts)) ≡ Some (array us)
  members_give no_trees us m n = added_give us
  members_give (more_trees t ts) no_trees m n = removed_give (more_trees t ts)
  members_give (more_trees t ts) (more_trees u us) m n =
      let r = array_both t ts (differences [] t u) (member_differences [] 0 ts us) (deep t u)
      (members_in 0 ts us) in
      (λ i. applied (at_number 0 t u i ++ members_shifted 0 ts us i)
      (Some (array (more_trees t ts)))) ∙ r.4
      ∙ (λ i. Some (array (more_trees (one_tree r.0 u (sym r.2 ∙ gives t u m.0 n.0) i)
      (one_array r.1 us (sym r.3 ∙ members_give ts us m.1 n.1) i))))

  entries_give : (es fs : Entries) → Ascends es → AreMapsOf es → Ascends fs → AreMapsOf fs
      → applied (entry_differences [] es fs) (Some (table es)) ≡ Some (table fs)
  entries_give no_entries fs a m c n = added_entries_give fs c
  entries_give (entry k t es) fs a m c n =
      next_gives k t es a.0 (λ u w. gives t u m.0 w)
      (λ gs x y. entries_give es gs a.1 m.1 x y) fs c n
