-- The paths of differences ascend, and no difference is of two arrays or two tables.
use Rattle.std.proofs.Common.{◌≡◌, ℕ, ◌+◌, ◌<◌, List, [], ◌∷◌, ◌++◌, map, Bool, true, false}
use Rattle.std.proofs.Common.{Some, refl, sym, subst, arith, inl, inr}
use Rattle.std.proofs.Common.{Less, Greater}
use Rattle.std.specs.Prelude.{if◌then◌else◌, AllPairs}
use Rattle.std.specs.List.{AllByRecursion}
use Rattle.std.proofs.lemmas.List.Elements.{All-from_recursion}
use Rattle.std.proofs.lemmas.List.Kept.{AllPairs-cons}
use Rattle.resb_tree.specs.Tree.{Tree, array, table}
use Rattle.resb_tree.specs.Tree.{Trees, no_trees, more_trees, Entries}
use Rattle.resb_tree.specs.Tree.{no_entries, entry}
use Rattle.resb_tree.specs.Equality.{tree_eq}
use Rattle.resb_tree.specs.Maps.{text_cmp, AreMaps, AreMapsIn, AreMapsOf}
use Rattle.resb_diff.specs.Differences.{Step, by_key, by_number}
use Rattle.resb_diff.specs.Differences.{Difference, added, removed, changed, differences}
use Rattle.resb_diff.specs.Differences.{member_differences, added_members, entry_differences}
use Rattle.resb_diff.specs.Differences.{added_entries}
use Rattle.resb_diff.specs.Applied.{path_of, StepBefore, Before, IsWhole}
use Rattle.resb_diff.proofs.LawLemmas.{one_key}
use Rattle.resb_diff.proofs.SoLemmas.{AllBeyond, Ascends, ascends, all_append, at_order}
use Rattle.resb_diff.proofs.SoLemmas.{all_further, turned}
use Rattle.resb_diff.proofs.BehindLemmas.{behind, all_behind, at_number}
use Rattle.resb_diff.proofs.AppliedLemmas.{AllIn, FirstBeyond}
use Rattle.resb_diff.proofs.PlaceLemmas.{number_in, key_in, added_beyond, entries_beyond}
use Rattle.resb_diff.proofs.GivesLemmas.{by_ordering}

whole_is : (p : List Step) (t u : Tree) (b : Bool) → IsWhole (changed p t u)
    → AllByRecursion IsWhole (if b then [] else changed p t u ∷ [])
whole_is p t u true h = tt
whole_is p t u false h = (h, tt)

added_whole : (p : List Step) (n : ℕ) (us : Trees) → AllByRecursion IsWhole (added_members p n us)
added_whole p n no_trees = tt
added_whole p n (more_trees u us) = (tt, added_whole p (n + 1) us)

added_entries_whole : (p : List Step) (fs : Entries)
    → AllByRecursion IsWhole (added_entries p fs)
added_entries_whole p no_entries = tt
added_entries_whole p (entry l u fs) = (tt, added_entries_whole p fs)

next_whole : (p : List Step) (k : List ℕ) (t : Tree) (es : Entries)
    → ((u : Tree) → AllByRecursion IsWhole (differences (p ++ by_key k ∷ []) t u))
    → ((gs : Entries) → AllByRecursion IsWhole (entry_differences p es gs)) → (fs : Entries)
    → AllByRecursion IsWhole (entry_differences p (entry k t es) fs)
next_whole p k t es inside after no_entries = (tt, after no_entries)
next_whole p k t es inside after (entry l u fs) =
    at_order IsWhole (text_cmp k l) _ _ _ (λ e. (tt, after (entry l u fs)))
    (λ e. all_append IsWhole _ _ (inside u) (after fs))
    (λ e. (tt, next_whole p k t es inside after fs))

mutual
  pub all_whole : (p : List Step) (t u : Tree) → AllByRecursion IsWhole (differences p t u)
  all_whole p (array ts) (array us) = members_whole p 0 ts us
  all_whole p (table es) (table fs) = entries_whole p es fs
  all_whole p t u = whole_is p t u (tree_eq t u) tt

  members_whole : (p : List Step) (n : ℕ) (ts us : Trees)
      → AllByRecursion IsWhole (member_differences p n ts us)
  members_whole p n no_trees us = added_whole p n us
  members_whole p n (more_trees t ts) no_trees = (tt, members_whole p (n + 1) ts no_trees)
  members_whole p n (more_trees t ts) (more_trees u us) =
      all_append IsWhole _ _ (all_whole (p ++ by_number n ∷ []) t u)
      (members_whole p (n + 1) ts us)

  entries_whole : (p : List Step) (es fs : Entries)
      → AllByRecursion IsWhole (entry_differences p es fs)
  entries_whole p no_entries fs = added_entries_whole p fs
  entries_whole p (entry k t es) fs =
      next_whole p k t es (λ u. all_whole (p ++ by_key k ∷ []) t u)
      (λ gs. entries_whole p es gs) fs

-- differences whose paths are behind a path
abbrev pub AllAfter : List Step → List Difference → Type 0
AllAfter p = AllIn (Before p)

-- the paths of differences ascend
abbrev pub Ascend : List Difference → Type 0
Ascend [] = Unit {0}
Ascend (d ∷ ds) = AllAfter (path_of d) ds × Ascend ds

pub pairs_ascend : (ds : List Difference) → Ascend ds
    → AllPairs (λ d e. Before (path_of d) (path_of e)) ds
pairs_ascend [] h = λ i j d below within. absurd (omega arith)
pairs_ascend (d ∷ ds) h =
    AllPairs-cons (λ x y. Before (path_of x) (path_of y)) d ds
    (All-from_recursion (λ e. Before (path_of d) (path_of e)) ds h.0) (pairs_ascend ds h.1)

-- each of some differences is before each of others
abbrev pub AllBefore : List Difference → List Difference → Type 0
AllBefore ds es = AllByRecursion (λ d. AllAfter (path_of d) es) ds

ascend_append : (ds es : List Difference) → Ascend ds → Ascend es → AllBefore ds es
    → Ascend (ds ++ es)
ascend_append [] es a b c = b
ascend_append (d ∷ ds) es a b c = (
  all_append (λ e. Before (path_of d) (path_of e)) ds es a.0 c.0,
  ascend_append ds es a.1 b c.1,
)

after_behind : (s : Step) (p : List Step) (ds : List Difference) → AllAfter p ds
    → AllAfter (s ∷ p) (map (behind s) ds)
after_behind s p [] h = tt
after_behind s p (added q u ∷ ds) h = (inr (refl, h.0), after_behind s p ds h.1)
after_behind s p (removed q t ∷ ds) h = (inr (refl, h.0), after_behind s p ds h.1)
after_behind s p (changed q t u ∷ ds) h = (inr (refl, h.0), after_behind s p ds h.1)

ascend_behind : (s : Step) (ds : List Difference) → Ascend ds → Ascend (map (behind s) ds)
ascend_behind s [] h = tt
ascend_behind s (added q u ∷ ds) h = (after_behind s q ds h.0, ascend_behind s ds h.1)
ascend_behind s (removed q t ∷ ds) h = (after_behind s q ds h.0, ascend_behind s ds h.1)
ascend_behind s (changed q t u ∷ ds) h = (after_behind s q ds h.0, ascend_behind s ds h.1)

-- a path begins with a step, or with one behind it
abbrev pub FirstIs : Step → List Step → Type 0
FirstIs s [] = ⊥
FirstIs s (r ∷ p) = r ≡ s

abbrev pub FirstAfter : Step → List Step → Type 0
FirstAfter s [] = ⊥
FirstAfter s (r ∷ p) = StepBefore s r

first_before : (s : Step) (p q : List Step) → FirstIs s p → FirstAfter s q → Before p q
first_before s [] q h g = absurd h
first_before s (r ∷ p) [] h g = absurd g
first_before s (r ∷ p) (r' ∷ q) h g = inl (subst (λ x. StepBefore x r') (sym h) g)

all_after : (s : Step) (p : List Step) (ds : List Difference) → FirstIs s p
    → AllIn (FirstAfter s) ds → AllAfter p ds
all_after s p [] h g = tt
all_after s p (d ∷ ds) h g = (first_before s p (path_of d) h g.0, all_after s p ds h g.1)

all_before : (s : Step) (ds es : List Difference) → AllIn (FirstIs s) ds
    → AllIn (FirstAfter s) es → AllBefore ds es
all_before s [] es h g = tt
all_before s (d ∷ ds) es h g = (all_after s (path_of d) es h.0 g, all_before s ds es h.1 g)

beyond_after : (k : List ℕ) (ds : List Difference) → AllIn (FirstBeyond (Some k)) ds
    → AllIn (FirstAfter (by_key k)) ds
beyond_after k [] h = tt
beyond_after k (d ∷ ds) h = (beyond_is (path_of d) h.0, beyond_after k ds h.1) where
  beyond_is : (p : List Step) → FirstBeyond (Some k) p → FirstAfter (by_key k) p
  beyond_is [] h = h
  beyond_is (by_key q ∷ p) h = h
  beyond_is (by_number n ∷ p) h = absurd h

added_after : (m n : ℕ) (us : Trees) → m < n
    → AllIn (FirstAfter (by_number m)) (added_members [] n us)
added_after m n no_trees h = tt
added_after m n (more_trees u us) h = (h, added_after m (n + 1) us (omega arith))

members_after : (m n : ℕ) (ts us : Trees) → m < n
    → AllIn (FirstAfter (by_number m)) (member_differences [] n ts us)
members_after m n no_trees us h = added_after m n us h
members_after m n (more_trees t ts) no_trees h =
    (h, members_after m (n + 1) ts no_trees (omega arith))
members_after m n (more_trees t ts) (more_trees u us) h =
    all_append (λ d. FirstAfter (by_number m) (path_of d)) _ _
    (number_in (FirstAfter (by_number m)) n t u (λ p. h))
    (members_after m (n + 1) ts us (omega arith))

whole_ascend : (t u : Tree) (b : Bool) → Ascend (if b then [] else changed [] t u ∷ [])
whole_ascend t u true = tt
whole_ascend t u false = (tt, tt)

added_ascend : (n : ℕ) (us : Trees) → Ascend (added_members [] n us)
added_ascend n no_trees = tt
added_ascend n (more_trees u us) = (
  all_after (by_number n) (by_number n ∷ []) _ refl (added_after n (n + 1) us (omega arith)),
  added_ascend (n + 1) us,
)

added_entries_ascend : (fs : Entries) → Ascends fs → Ascend (added_entries [] fs)
added_entries_ascend no_entries a = tt
added_entries_ascend (entry l u fs) a = (
  all_after (by_key l) (by_key l ∷ []) _ refl
      (beyond_after l _ (added_beyond (Some l) fs a.0)),
  added_entries_ascend fs a.1,
)

next_ascend : (k : List ℕ) (t : Tree) (es : Entries) → AllBeyond (Some k) es
    → ((u : Tree) → AreMaps u → Ascend (differences [] t u))
    → ((gs : Entries) → Ascends gs → AreMapsOf gs → Ascend (entry_differences [] es gs))
    → (fs : Entries) → Ascends fs → AreMapsOf fs
    → Ascend (entry_differences [] (entry k t es) fs)
next_ascend k t es above inside after no_entries a m = (
  all_after (by_key k) (by_key k ∷ []) _ refl
      (beyond_after k _ (entries_beyond (Some k) es no_entries above tt)),
  after no_entries tt tt,
)
next_ascend k t es above inside after (entry l u fs) a m =
    by_ordering Ascend (text_cmp k l) _ _ _
    (λ e. (
      all_after (by_key k) (by_key k ∷ []) _ refl
          (beyond_after k _ (entries_beyond (Some k) es (entry l u fs) above
          (e, all_further k l fs e a.0))),
      after (entry l u fs) a m,
    ))
    (λ e. ascend_append _ _
    (subst Ascend (sym (all_behind (by_key k) [] t u)) (ascend_behind (by_key k) _ (inside u m.0)))
    (after fs a.1 m.1)
    (all_before (by_key k) _ _ (key_in (FirstIs (by_key k)) k t u (λ p. refl))
    (beyond_after k _ (entries_beyond (Some k) es fs above
    (subst (λ j. AllBeyond (Some j) fs) (sym (one_key k l e)) a.0)))))
    (λ e.
    let before : text_cmp l k ≡ Less = turned k l Greater e in (
      all_after (by_key l) (by_key l ∷ []) _ refl
          (beyond_after l _ (entries_beyond (Some l) (entry k t es) fs
          (before, all_further l k es before above) a.0)),
      next_ascend k t es above inside after fs a.1 m.1,
    ))

mutual
  pub all_ascend : (t u : Tree) → AreMaps t → AreMaps u → Ascend (differences [] t u)
  all_ascend (array ts) (array us) m n = members_ascend 0 ts us m n
  all_ascend (table es) (table fs) m n =
      entries_ascend es fs (ascends es m.0) m.1 (ascends fs n.0) n.1
  all_ascend t u m n = whole_ascend t u (tree_eq t u)

  members_ascend : (n : ℕ) (ts us : Trees) → AreMapsIn ts → AreMapsIn us
      → Ascend (member_differences [] n ts us)
  members_ascend n no_trees us a m = added_ascend n us
  members_ascend n (more_trees t ts) no_trees a m = (
    all_after (by_number n) (by_number n ∷ []) _ refl
        (members_after n (n + 1) ts no_trees (omega arith)),
    members_ascend (n + 1) ts no_trees a.1 tt,
  )
  members_ascend n (more_trees t ts) (more_trees u us) a m =
      ascend_append _ _
      (subst Ascend (sym (at_number n t u))
      (ascend_behind (by_number n) _ (all_ascend t u a.0 m.0)))
      (members_ascend (n + 1) ts us a.1 m.1)
      (all_before (by_number n) _ _ (number_in (FirstIs (by_number n)) n t u (λ p. refl))
      (members_after n (n + 1) ts us (omega arith)))

  entries_ascend : (es fs : Entries) → Ascends es → AreMapsOf es → Ascends fs → AreMapsOf fs
      → Ascend (entry_differences [] es fs)
  entries_ascend no_entries fs a m c n = added_entries_ascend fs c
  entries_ascend (entry k t es) fs a m c n =
      next_ascend k t es a.0 (λ u w. all_ascend t u m.0 w)
      (λ gs x y. entries_ascend es gs a.1 m.1 x y) fs c n
