-- Two trees don't differ exactly where they are equal.
use Rattle.std.proofs.Common.{◌≡◌, ℕ, ◌+◌, List, [], ◌∷◌, ◌++◌, Bool, true, false, refl, ap}
use Rattle.std.proofs.Common.{◌∙◌, Ordering, Less, Equal, Greater}
use Rattle.std.specs.Prelude.{if◌then◌else◌}
use Rattle.std.specs.Ordering.{match_ordering}
use Rattle.std.specs.Cmp.{tied_itself}
use Rattle.std.specs.Cmp.Lexicographic.{nat_list_cmp_total}
use Rattle.std.specs.FinMap.{slice_cmp-IsAntisymmetric, nat_cmp-IsAntisymmetric}
use Rattle.resb_tree.specs.Tree.{Tree, string, alias, array, table, binary, integer}
use Rattle.resb_tree.specs.Tree.{int_vector, Trees, no_trees, more_trees, Entries}
use Rattle.resb_tree.specs.Tree.{no_entries, entry}
use Rattle.resb_tree.specs.Equality.{tree_eq}
use Rattle.resb_tree.specs.Inner.EqualityLemmas.{tree_eq_decides}
use Rattle.resb_tree.specs.Maps.{text_cmp}
use Rattle.resb_diff.specs.Differences.{Step, by_key, by_number}
use Rattle.resb_diff.specs.Differences.{Difference, added, removed, changed, differences}
use Rattle.resb_diff.specs.Differences.{member_differences, entry_differences}

-- a key is its own, and no other's
pub own_key : (k : List ℕ) → text_cmp k k ≡ Equal
own_key k = tied_itself nat_list_cmp_total k

pub one_key : (k l : List ℕ) → text_cmp k l ≡ Equal → k ≡ l
one_key k l e = slice_cmp-IsAntisymmetric nat_cmp-IsAntisymmetric k l e

some_list : {A X : Type 0} (x : A) (xs : List A) → x ∷ xs ≡ [] → X
some_list x xs e = absurd (cc)

none_first : {A : Type 0} (xs ys : List A) → xs ++ ys ≡ [] → xs ≡ []
none_first [] ys e = refl
none_first (x ∷ xs) ys e = some_list x (xs ++ ys) e

none_second : {A : Type 0} (xs ys : List A) → xs ++ ys ≡ [] → ys ≡ []
none_second [] ys e = e
none_second (x ∷ xs) ys e = some_list x (xs ++ ys) e

whole_same : (p : List Step) (t : Tree)
    → (if tree_eq t t then [] else changed p t t ∷ []) ≡ []
whole_same p t = ap (λ b. if b then [] else changed p t t ∷ []) ((tree_eq_decides t t).1 refl)

-- equal trees don't differ
mutual
  pub same_none : (p : List Step) (t : Tree) → differences p t t ≡ []
  same_none p (array ts) = same_members p 0 ts
  same_none p (table es) = same_entries p es
  same_none p (string s) = whole_same p (string s)
  same_none p (alias s) = whole_same p (alias s)
  same_none p (binary s) = whole_same p (binary s)
  same_none p (integer n) = whole_same p (integer n)
  same_none p (int_vector s) = whole_same p (int_vector s)

  same_members : (p : List Step) (n : ℕ) (ts : Trees) → member_differences p n ts ts ≡ []
  same_members p n no_trees = refl
  same_members p n (more_trees t ts) =
      λ i. same_none (p ++ by_number n ∷ []) t i ++ same_members p (n + 1) ts i

  same_entries : (p : List Step) (es : Entries) → entry_differences p es es ≡ []
  same_entries p no_entries = refl
  same_entries p (entry k t es) =
      ap (λ o. match_ordering o
      (removed (p ++ by_key k ∷ []) t ∷ entry_differences p es (entry k t es))
      (differences (p ++ by_key k ∷ []) t t ++ entry_differences p es es)
      (added (p ++ by_key k ∷ []) t ∷ entry_differences p (entry k t es) es)) (own_key k)
      ∙ (λ i. same_none (p ++ by_key k ∷ []) t i ++ same_entries p es i)

whole_none : (p : List Step) (t u : Tree) (b : Bool) → tree_eq t u ≡ b
    → (if b then [] else changed p t u ∷ []) ≡ [] → t ≡ u
whole_none p t u true e h = (tree_eq_decides t u).0 e
whole_none p t u false e h = some_list (changed p t u) [] h

-- entries of which none was added or removed, and none has differences inside
entry_none : (k l : List ℕ) (t u : Tree) (es fs : Entries) (o : Ordering) (a b : Difference)
    (removals xs ys additions : List Difference) → text_cmp k l ≡ o → (xs ≡ [] → t ≡ u)
    → (ys ≡ [] → es ≡ fs)
    → match_ordering o (a ∷ removals) (xs ++ ys) (b ∷ additions) ≡ [] → entry k t es ≡ entry l u fs
entry_none k l t u es fs Less a b removals xs ys additions o f g e = some_list a removals e
entry_none k l t u es fs Greater a b removals xs ys additions o f g e = some_list b additions e
entry_none k l t u es fs Equal a b removals xs ys additions o f g e =
    λ i. entry (one_key k l o i) (f (none_first xs ys e) i) (g (none_second xs ys e) i)

-- trees that don't differ are equal
mutual
  pub none_same : (p : List Step) (t u : Tree) → differences p t u ≡ [] → t ≡ u
  none_same p (array ts) (array us) e = ap array (none_members p 0 ts us e)
  none_same p (table es) (table fs) e = ap table (none_entries p es fs e)
  none_same p t u e = whole_none p t u (tree_eq t u) refl e

  none_members : (p : List Step) (n : ℕ) (ts us : Trees) → member_differences p n ts us ≡ []
      → ts ≡ us
  none_members p n no_trees no_trees e = refl
  none_members p n no_trees (more_trees u us) e = some_list _ _ e
  none_members p n (more_trees t ts) no_trees e = some_list _ _ e
  none_members p n (more_trees t ts) (more_trees u us) e =
      λ i. more_trees (none_same (p ++ by_number n ∷ []) t u (none_first _ _ e) i)
      (none_members p (n + 1) ts us (none_second _ _ e) i)

  none_entries : (p : List Step) (es fs : Entries) → entry_differences p es fs ≡ [] → es ≡ fs
  none_entries p no_entries no_entries e = refl
  none_entries p no_entries (entry l u fs) e = some_list _ _ e
  none_entries p (entry k t es) no_entries e = some_list _ _ e
  none_entries p (entry k t es) (entry l u fs) e =
      entry_none k l t u es fs (text_cmp k l) _ _ _ _ _ _ refl
      (none_same (p ++ by_key k ∷ []) t u) (none_entries p es fs) e
