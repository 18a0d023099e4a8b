-- Differences at longer paths are those at shorter ones with a step before, and those of members
-- with greater numbers are those with smaller ones, one on.
use Rattle.std.proofs.Common.{◌≡◌, ℕ, suc, ◌+◌, List, [], ◌∷◌, ◌++◌, Bool, true, false, map}
use Rattle.std.proofs.Common.{refl, sym, ap, ◌∙◌, arith, Ordering, Less, Equal, Greater}
use Rattle.std.specs.Prelude.{if◌then◌else◌}
use Rattle.std.specs.Ordering.{match_ordering}
use Rattle.std.proofs.lemmas.List.{map-append}
use Rattle.resb_tree.specs.Tree.{Tree, array, table}
use Rattle.resb_tree.specs.Tree.{Trees, no_trees, more_trees, Entries}
use Rattle.resb_tree.specs.Tree.{no_entries, entry}
use Rattle.resb_tree.specs.Equality.{tree_eq}
use Rattle.resb_tree.specs.Maps.{text_cmp}
use Rattle.resb_diff.specs.Differences.{Step, by_key, by_number}
use Rattle.resb_diff.specs.Differences.{Difference, added, removed, changed, differences}
use Rattle.resb_diff.specs.Differences.{member_differences, added_members, entry_differences}
use Rattle.resb_diff.specs.Differences.{added_entries}

-- a difference at another path
abbrev pub moved : (List Step → List Step) → Difference → Difference
moved f (added p u) = added (f p) u
moved f (removed p t) = removed (f p) t
moved f (changed p t u) = changed (f p) t u

-- a difference at a path with a step before
abbrev pub behind : Step → Difference → Difference
behind s = moved (λ p. s ∷ p)

-- a path whose first step is one number on
abbrev pub one_on : List Step → List Step
one_on [] = []
one_on (by_key k ∷ p) = by_key k ∷ p
one_on (by_number n ∷ p) = by_number (suc n) ∷ p

-- a difference whose path's first step is one number on
abbrev pub shifted : Difference → Difference
shifted = moved one_on

map_match : (f : Difference → Difference) (o : Ordering) (a b c : List Difference)
    → match_ordering o (map f a) (map f b) (map f c) ≡ map f (match_ordering o a b c)
map_match f Less a b c = refl
map_match f Equal a b c = refl
map_match f Greater a b c = refl

whole_behind : (s : Step) (p : List Step) (t u : Tree) (b : Bool)
    → (if b then [] else changed (s ∷ p) t u ∷ [])
    ≡ map (behind s) (if b then [] else changed p t u ∷ [])
whole_behind s p t u true = refl
whole_behind s p t u false = refl

added_members_behind : (s : Step) (p : List Step) (n : ℕ) (us : Trees)
    → added_members (s ∷ p) n us ≡ map (behind s) (added_members p n us)
added_members_behind s p n no_trees = refl
added_members_behind s p n (more_trees u us) =
    ap (λ ds. added (s ∷ (p ++ by_number n ∷ [])) u ∷ ds) (added_members_behind s p (n + 1) us)

added_entries_behind : (s : Step) (p : List Step) (fs : Entries)
    → added_entries (s ∷ p) fs ≡ map (behind s) (added_entries p fs)
added_entries_behind s p no_entries = refl
added_entries_behind s p (entry l u fs) =
    ap (λ ds. added (s ∷ (p ++ by_key l ∷ [])) u ∷ ds) (added_entries_behind s p fs)

next_behind : (s : Step) (p : List Step) (k : List ℕ) (t : Tree) (es : Entries)
    → ((u : Tree) → differences (s ∷ (p ++ by_key k ∷ [])) t u
    ≡ map (behind s) (differences (p ++ by_key k ∷ []) t u))
    → ((gs : Entries) → entry_differences (s ∷ p) es gs ≡ map (behind s) (entry_differences p es gs))
    → (fs : Entries) → entry_differences (s ∷ p) (entry k t es) fs
    ≡ map (behind s) (entry_differences p (entry k t es) fs)
next_behind s p k t es inside after no_entries =
    ap (λ ds. removed (s ∷ (p ++ by_key k ∷ [])) t ∷ ds) (after no_entries)
next_behind s p k t es inside after (entry l u fs) =
    (λ i. match_ordering (text_cmp k l)
    (removed (s ∷ (p ++ by_key k ∷ [])) t ∷ after (entry l u fs) i)
    (inside u i ++ after fs i)
    (added (s ∷ (p ++ by_key l ∷ [])) u ∷ next_behind s p k t es inside after fs i))
    ∙ ap (λ ds. match_ordering (text_cmp k l)
    (map (behind s) (removed (p ++ by_key k ∷ []) t ∷ entry_differences p es (entry l u fs))) ds
    (map (behind s) (added (p ++ by_key l ∷ []) u ∷ entry_differences p (entry k t es) fs)))
    (sym (map-append (behind s) (differences (p ++ by_key k ∷ []) t u) (entry_differences p es fs)))
    ∙ map_match (behind s) (text_cmp k l) _ _ _

-- the differences at a path with a step before
mutual
  pub all_behind : (s : Step) (p : List Step) (t u : Tree)
      → differences (s ∷ p) t u ≡ map (behind s) (differences p t u)
  all_behind s p (array ts) (array us) = members_behind s p 0 ts us
  all_behind s p (table es) (table fs) = entries_behind s p es fs
  all_behind s p t u = whole_behind s p t u (tree_eq t u)

  members_behind : (s : Step) (p : List Step) (n : ℕ) (ts us : Trees)
      → member_differences (s ∷ p) n ts us ≡ map (behind s) (member_differences p n ts us)
  members_behind s p n no_trees us = added_members_behind s p n us
  members_behind s p n (more_trees t ts) no_trees =
      ap (λ ds. removed (s ∷ (p ++ by_number n ∷ [])) t ∷ ds)
      (members_behind s p (n + 1) ts no_trees)
  members_behind s p n (more_trees t ts) (more_trees u us) =
      (λ i. all_behind s (p ++ by_number n ∷ []) t u i ++ members_behind s p (n + 1) ts us i)
      ∙ sym (map-append (behind s) (differences (p ++ by_number n ∷ []) t u)
      (member_differences p (n + 1) ts us))

  entries_behind : (s : Step) (p : List Step) (es fs : Entries)
      → entry_differences (s ∷ p) es fs ≡ map (behind s) (entry_differences p es fs)
  entries_behind s p no_entries fs = added_entries_behind s p fs
  entries_behind s p (entry k t es) fs =
      next_behind s p k t es (λ u. all_behind s (p ++ by_key k ∷ []) t u)
      (λ gs. entries_behind s p es gs) fs

shifted_behind : (n : ℕ) (ds : List Difference)
    → map (behind (by_number (suc n))) ds ≡ map shifted (map (behind (by_number n)) ds)
shifted_behind n [] = refl
shifted_behind n (added p u ∷ ds) =
    ap (λ es. added (by_number (suc n) ∷ p) u ∷ es) (shifted_behind n ds)
shifted_behind n (removed p t ∷ ds) =
    ap (λ es. removed (by_number (suc n) ∷ p) t ∷ es) (shifted_behind n ds)
shifted_behind n (changed p t u ∷ ds) =
    ap (λ es. changed (by_number (suc n) ∷ p) t u ∷ es) (shifted_behind n ds)

next_number : (n : ℕ) → suc n + 1 ≡ suc (n + 1)
next_number n = omega arith

-- the differences of two members, at their number
pub at_number : (n : ℕ) (t u : Tree)
    → differences (by_number n ∷ []) t u ≡ map (behind (by_number n)) (differences [] t u)
at_number n t u = all_behind (by_number n) [] t u

pub added_shifted : (n : ℕ) (us : Trees)
    → added_members [] (suc n) us ≡ map shifted (added_members [] n us)
added_shifted n no_trees = refl
added_shifted n (more_trees u us) =
    ap (λ ds. added (by_number (suc n) ∷ []) u ∷ ds)
    (ap (λ m. added_members [] m us) (next_number n) ∙ added_shifted (n + 1) us)

-- the differences of members from the next number on
pub members_shifted : (n : ℕ) (ts us : Trees)
    → member_differences [] (suc n) ts us ≡ map shifted (member_differences [] n ts us)
members_shifted n no_trees us = added_shifted n us
members_shifted n (more_trees t ts) no_trees =
    ap (λ ds. removed (by_number (suc n) ∷ []) t ∷ ds)
    (ap (λ m. member_differences [] m ts no_trees) (next_number n)
    ∙ members_shifted (n + 1) ts no_trees)
members_shifted n (more_trees t ts) (more_trees u us) =
    (λ i. (at_number (suc n) t u ∙ shifted_behind n (differences [] t u)
    ∙ ap (map shifted) (sym (at_number n t u))) i
    ++ (ap (λ m. member_differences [] m ts us) (next_number n)
    ∙ members_shifted (n + 1) ts us) i)
    ∙ sym (map-append shifted (differences (by_number n ∷ []) t u)
    (member_differences [] (n + 1) ts us))
