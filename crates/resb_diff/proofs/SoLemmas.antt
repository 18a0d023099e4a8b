-- Each difference is so.
use Rattle.std.proofs.Common.{◌≡◌, ℕ, suc, ◌+◌, List, [], ◌∷◌, ◌++◌, Bool, true, false}
use Rattle.std.proofs.Common.{Option, Some, None, refl, sym, ap, ◌∙◌, subst, arith}
use Rattle.std.proofs.Common.{Ordering, Less, Equal, Greater}
use Rattle.std.specs.Prelude.{if◌then◌else◌, T, cond, ◌&&◌}
use Rattle.std.specs.List.{AllByRecursion}
use Rattle.std.specs.Option.{option_and_then}
use Rattle.std.specs.Ordering.{match_ordering, is_lt, is_eq, ordering_reverse}
use Rattle.std.specs.Cmp.Lexicographic.{nat_list_cmp_total}
use Rattle.std.specs.FinMap.Entries as fin
use Rattle.resb_tree.specs.Tree.{Tree, array, table}
use Rattle.resb_tree.specs.Tree.{Trees, no_trees, more_trees, Entries}
use Rattle.resb_tree.specs.Tree.{no_entries, entry}
use Rattle.resb_tree.specs.Equality.{tree_eq}
use Rattle.resb_tree.specs.Inner.EqualityLemmas.{tree_eq_decides}
use Rattle.resb_tree.specs.Maps.{text_cmp, keyed_trees, get, IsMap, AreMaps, AreMapsIn, AreMapsOf}
use Rattle.std.proofs.lemmas.Bool.{false≢true}
use Rattle.resb_diff.specs.Differences.{Step, by_key, by_number}
use Rattle.resb_diff.specs.Differences.{Difference, changed, differences}
use Rattle.resb_diff.specs.Differences.{member_differences, added_members, entry_differences}
use Rattle.resb_diff.specs.Differences.{added_entries}
use Rattle.resb_diff.specs.Laws.{member, after_step, at_path, IsSo}
use Rattle.resb_diff.proofs.LawLemmas.{own_key, one_key}

same_some : (x y : Tree) → Some x ≡ Some y → x ≡ y
same_some x y e = cc

last_step : (o : Option Tree) → option_and_then (at_path []) o ≡ o
last_step None = refl
last_step (Some x) = refl

after_first : (p q : List Step) (o : Option Tree) (t : Tree) (a : Option Tree)
    → ((x : Tree) → at_path p x ≡ Some t → at_path q x ≡ a)
    → option_and_then (at_path p) o ≡ Some t → option_and_then (at_path q) o ≡ a
after_first p q None t a f e = absurd (cc)
after_first p q (Some x) t a f e = f x e

-- what stands one step on
one_step_on : (p : List Step) (s : Step) (r t : Tree) → at_path p r ≡ Some t
    → at_path (p ++ s ∷ []) r ≡ after_step s t
one_step_on [] s r t e = last_step (after_step s r) ∙ ap (after_step s) (same_some r t e)
one_step_on (q ∷ p) s r t e =
    after_first p (p ++ s ∷ []) (after_step q r) t (after_step s t)
    (λ x f. one_step_on p s x t f) e

pub all_append : (P : Difference → Type 0) (xs ys : List Difference) → AllByRecursion P xs
    → AllByRecursion P ys → AllByRecursion P (xs ++ ys)
all_append P [] ys h k = k
all_append P (x ∷ xs) ys h k = (h.0, all_append P xs ys h.1 k)

pub at_order : (P : Difference → Type 0) (o : Ordering) (a b c : List Difference)
    → (o ≡ Less → AllByRecursion P a) → (o ≡ Equal → AllByRecursion P b)
    → (o ≡ Greater → AllByRecursion P c) → AllByRecursion P (match_ordering o a b c)
at_order P Less a b c f g h = f refl
at_order P Equal a b c f g h = g refl
at_order P Greater a b c f g h = h refl

-- a key is above a bound, where there is one
abbrev pub Beyond : Option (List ℕ) → List ℕ → Type 0
Beyond None q = Unit {0}
Beyond (Some k) q = text_cmp k q ≡ Less

-- each key is above the bound
abbrev pub AllBeyond : Option (List ℕ) → Entries → Type 0
AllBeyond b no_entries = Unit {0}
AllBeyond b (entry k t es) = Beyond b k × AllBeyond b es

-- the keys ascend
abbrev pub Ascends : Entries → Type 0
Ascends no_entries = Unit {0}
Ascends (entry k t es) = AllBeyond (Some k) es × Ascends es

first : (a b : Bool) → T (a && b) → T a
first true b h = tt
first false b h = absurd h

second : (a b : Bool) → T (a && b) → T b
second true b h = h
second false b h = absurd h

less : (o : Ordering) → T (is_lt o) → o ≡ Less
less Less h = refl
less Equal h = absurd h
less Greater h = absurd h

beyond_all : (k : List ℕ) (es : Entries) → T (fin.below_all text_cmp k (keyed_trees es))
    → AllBeyond (Some k) es
beyond_all k no_entries h = tt
beyond_all k (entry l u fs) h =
    (less (text_cmp k l) (first _ _ h), beyond_all k fs (second (is_lt (text_cmp k l)) _ h))

pub ascends : (es : Entries) → IsMap es → Ascends es
ascends no_entries h = tt
ascends (entry k t es) h = (
  beyond_all k es (first _ _ h),
  ascends es (second (fin.below_all text_cmp k (keyed_trees es)) _ h),
)

pub unbound : (es : Entries) → AllBeyond None es
unbound no_entries = tt
unbound (entry k t es) = (tt, unbound es)

pub further : (b : Option (List ℕ)) (k q : List ℕ) → Beyond b k → text_cmp k q ≡ Less → Beyond b q
further None k q h e = tt
further (Some l) k q h e = nat_list_cmp_total.trans l k q h e

pub all_further : (k l : List ℕ) (es : Entries) → text_cmp k l ≡ Less → AllBeyond (Some l) es
    → AllBeyond (Some k) es
all_further k l no_entries e h = tt
all_further k l (entry m t es) e h =
    (nat_list_cmp_total.trans k l m e h.0, all_further k l es e h.1)

pub turned : (k l : List ℕ) (o : Ordering) → text_cmp k l ≡ o → text_cmp l k ≡ ordering_reverse o
turned k l o e = nat_list_cmp_total.antisymm l k ∙ ap ordering_reverse e

pub get_here : (q k : List ℕ) (t : Tree) (es : Entries) → text_cmp q k ≡ Equal
    → get q (entry k t es) ≡ Some t
get_here q k t es e = ap (λ o. cond (is_eq o) (Some t) (get q es)) e

pub get_past : (q k : List ℕ) (t : Tree) (es : Entries) → text_cmp k q ≡ Less
    → get q (entry k t es) ≡ get q es
get_past q k t es e = ap (λ o. cond (is_eq o) (Some t) (get q es)) (turned k q Less e)

get_none : (q : List ℕ) (es : Entries) → AllBeyond (Some q) es → get q es ≡ None
get_none q no_entries h = refl
get_none q (entry k t es) h =
    ap (λ o. cond (is_eq o) (Some t) (get q es)) h.0 ∙ get_none q es h.1

-- what stands at the numbers from n on
abbrev pub Numbered : Tree → List Step → ℕ → (ℕ → Option Tree) → Type 0
Numbered r p n f = (i : ℕ) → at_path (p ++ by_number (n + i) ∷ []) r ≡ f i

numbered_here : (r : Tree) (p : List Step) (n : ℕ) (f : ℕ → Option Tree) → Numbered r p n f
    → at_path (p ++ by_number n ∷ []) r ≡ f 0
numbered_here r p n f h =
    let e : n ≡ n + 0 = omega arith in
    ap (λ j. at_path (p ++ by_number j ∷ []) r) e ∙ h 0

numbered_next : (r : Tree) (p : List Step) (n : ℕ) (f : ℕ → Option Tree) → Numbered r p n f
    → Numbered r p (n + 1) (λ i. f (suc i))
numbered_next r p n f h = λ i.
    let e : n + 1 + i ≡ n + suc i = omega arith in
    ap (λ j. at_path (p ++ by_number j ∷ []) r) e ∙ h (suc i)

-- what stands at the keys that are above a bound
abbrev pub Keyed : Tree → List Step → Option (List ℕ) → Entries → Type 0
Keyed r p b es = (q : List ℕ) → Beyond b q → at_path (p ++ by_key q ∷ []) r ≡ get q es

keyed_past : (r : Tree) (p : List Step) (b : Option (List ℕ)) (k : List ℕ) (t : Tree)
    (es : Entries) → Beyond b k → Keyed r p b (entry k t es) → Keyed r p (Some k) es
keyed_past r p b k t es h g = λ q e. g q (further b k q h e) ∙ get_past q k t es e

keyed_further : (r : Tree) (p : List Step) (b : Option (List ℕ)) (k : List ℕ) (es : Entries)
    → Beyond b k → Keyed r p b es → Keyed r p (Some k) es
keyed_further r p b k es h g = λ q e. g q (further b k q h e)

-- members that were added are so
added_members_so : (r s : Tree) (p : List Step) (n : ℕ) (us : Trees)
    → Numbered r p n (λ i. None) → Numbered s p n (λ i. member i us)
    → AllByRecursion (IsSo r s) (added_members p n us)
added_members_so r s p n no_trees g h = tt
added_members_so r s p n (more_trees u us) g h = (
  (numbered_here r p n (λ i. None) g, numbered_here s p n (λ i. member i (more_trees u us)) h),
  added_members_so r s p (n + 1) us (numbered_next r p n (λ i. None) g)
      (numbered_next s p n (λ i. member i (more_trees u us)) h),
)

-- entries that were added are so
added_entries_so : (r s : Tree) (p : List Step) (b : Option (List ℕ)) (fs : Entries)
    → AllBeyond b fs → Ascends fs → Keyed r p b no_entries → Keyed s p b fs
    → AllByRecursion (IsSo r s) (added_entries p fs)
added_entries_so r s p b no_entries k a g h = tt
added_entries_so r s p b (entry l u fs) k a g h = (
  (g l k.0, h l k.0 ∙ get_here l l u fs (own_key l)),
  added_entries_so r s p (Some l) fs a.0 a.1 (keyed_further r p b l no_entries k.0 g)
      (keyed_past s p b l u fs k.0 h),
)

-- the differences from the next entry of the old table on are so, if those inside and behind it are
next_entry_so : (r s : Tree) (p : List Step) (k : List ℕ) (t : Tree) (es : Entries)
    → AllBeyond (Some k) es
    → ((u : Tree) → AreMaps u → at_path (p ++ by_key k ∷ []) r ≡ Some t
    → at_path (p ++ by_key k ∷ []) s ≡ Some u
    → AllByRecursion (IsSo r s) (differences (p ++ by_key k ∷ []) t u))
    → ((c : Option (List ℕ)) (gs : Entries) → AllBeyond c es → AllBeyond c gs → Ascends gs
    → AreMapsOf gs → Keyed r p c es → Keyed s p c gs
    → AllByRecursion (IsSo r s) (entry_differences p es gs))
    → (b : Option (List ℕ)) (fs : Entries) → Beyond b k → AllBeyond b fs → Ascends fs
    → AreMapsOf fs → Keyed r p b (entry k t es) → Keyed s p b fs
    → AllByRecursion (IsSo r s) (entry_differences p (entry k t es) fs)
next_entry_so r s p k t es above inside behind b no_entries bk kf a m g h = (
  (g k bk ∙ get_here k k t es (own_key k), h k bk),
  behind (Some k) no_entries above tt tt tt (keyed_past r p b k t es bk g)
      (keyed_further s p b k no_entries bk h),
)
next_entry_so r s p k t es above inside behind b (entry l u fs) bk kf a m g h =
    at_order (IsSo r s) (text_cmp k l) _ _ _
    (λ e.
    let beyond : AllBeyond (Some k) (entry l u fs) = (e, all_further k l fs e a.0) in (
      (g k bk ∙ get_here k k t es (own_key k), h k bk ∙ get_none k (entry l u fs) beyond),
      behind (Some k) (entry l u fs) above beyond a m (keyed_past r p b k t es bk g)
          (keyed_further s p b k (entry l u fs) bk h),
    ))
    (λ e.
    let same = one_key k l e in
    all_append (IsSo r s) _ _
    (inside u m.0 (g k bk ∙ get_here k k t es (own_key k)) (h k bk ∙ get_here k l u fs e))
    (behind (Some k) fs above (subst (λ j. AllBeyond (Some j) fs) (sym same) a.0) a.1 m.1
    (keyed_past r p b k t es bk g)
    (subst (λ j. Keyed s p (Some j) fs) (sym same) (keyed_past s p b l u fs kf.0 h))))
    (λ e.
    let before : text_cmp l k ≡ Less = turned k l Greater e in (
      (
        g l kf.0 ∙ get_none l (entry k t es) (before, all_further l k es before above),
        h l kf.0 ∙ get_here l l u fs (own_key l),
      ),
      next_entry_so r s p k t es above inside behind (Some l) fs before a.0 a.1 m.1
          (keyed_further r p b l (entry k t es) kf.0 g) (keyed_past s p b l u fs kf.0 h),
    ))

-- trees that are changed as a whole
whole_so : (r s : Tree) (p : List Step) (t u : Tree) → at_path p r ≡ Some t → at_path p s ≡ Some u
    → (b : Bool) → tree_eq t u ≡ b
    → AllByRecursion (IsSo r s) (if b then [] else changed p t u ∷ [])
whole_so r s p t u g h true e = tt
whole_so r s p t u g h false e =
    ((g, h, λ same. false≢true (sym e ∙ (tree_eq_decides t u).1 same)), tt)

numbered_first : (r : Tree) (p : List Step) (ts : Trees) → at_path p r ≡ Some (array ts)
    → Numbered r p 0 (λ i. member i ts)
numbered_first r p ts g = λ i.
    let e : 0 + i ≡ i = omega arith in
    ap (λ j. at_path (p ++ by_number j ∷ []) r) e ∙ one_step_on p (by_number i) r (array ts) g

-- each difference of trees that stand at a path is so
mutual
  pub each_so : (r s : Tree) (p : List Step) (t u : Tree) → AreMaps t → AreMaps u
      → at_path p r ≡ Some t → at_path p s ≡ Some u
      → AllByRecursion (IsSo r s) (differences p t u)
  each_so r s p (array ts) (array us) m n g h =
      members_so r s p 0 ts us m n (numbered_first r p ts g) (numbered_first s p us h)
  each_so r s p (table es) (table fs) m n g h =
      entries_so r s p None es fs (unbound es) (unbound fs) (ascends es m.0) m.1
      (ascends fs n.0) n.1 (λ q e. one_step_on p (by_key q) r (table es) g)
      (λ q e. one_step_on p (by_key q) s (table fs) h)
  each_so r s p t u m n g h = whole_so r s p t u g h (tree_eq t u) refl

  members_so : (r s : Tree) (p : List Step) (n : ℕ) (ts us : Trees) → AreMapsIn ts → AreMapsIn us
      → Numbered r p n (λ i. member i ts) → Numbered s p n (λ i. member i us)
      → AllByRecursion (IsSo r s) (member_differences p n ts us)
  members_so r s p n no_trees us a m g h = added_members_so r s p n us g h
  members_so r s p n (more_trees t ts) no_trees a m g h = (
    (
      numbered_here r p n (λ i. member i (more_trees t ts)) g,
      numbered_here s p n (λ i. None) h,
    ),
    members_so r s p (n + 1) ts no_trees a.1 tt
        (numbered_next r p n (λ i. member i (more_trees t ts)) g)
        (numbered_next s p n (λ i. None) h),
  )
  members_so r s p n (more_trees t ts) (more_trees u us) a m g h =
      all_append (IsSo r s) _ _
      (each_so r s (p ++ by_number n ∷ []) t u a.0 m.0
      (numbered_here r p n (λ i. member i (more_trees t ts)) g)
      (numbered_here s p n (λ i. member i (more_trees u us)) h))
      (members_so r s p (n + 1) ts us a.1 m.1
      (numbered_next r p n (λ i. member i (more_trees t ts)) g)
      (numbered_next s p n (λ i. member i (more_trees u us)) h))

  entries_so : (r s : Tree) (p : List Step) (b : Option (List ℕ)) (es fs : Entries)
      → AllBeyond b es → AllBeyond b fs → Ascends es → AreMapsOf es → Ascends fs → AreMapsOf fs
      → Keyed r p b es → Keyed s p b fs
      → AllByRecursion (IsSo r s) (entry_differences p es fs)
  entries_so r s p b no_entries fs ke kf a m c n g h = added_entries_so r s p b fs kf c g h
  entries_so r s p b (entry k t es) fs ke kf a m c n g h =
      next_entry_so r s p k t es a.0
      (λ u w e f. each_so r s (p ++ by_key k ∷ []) t u m.0 w e f)
      (λ d gs x y z v e f. entries_so r s p d es gs x y a.1 m.1 z v e f)
      b fs ke.0 kf c n g h
