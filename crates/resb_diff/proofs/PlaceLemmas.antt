-- Where the paths of differences lead to first.
use Rattle.std.proofs.Common.{ℕ, ◌+◌, List, [], ◌∷◌, map, Bool, true, false}
use Rattle.std.proofs.Common.{Option, None, sym, subst}
use Rattle.std.specs.Prelude.{if◌then◌else◌}
use Rattle.std.specs.List.{AllByRecursion}
use Rattle.resb_tree.specs.Tree.{Tree, array, table}
use Rattle.resb_tree.specs.Tree.{Trees, no_trees, more_trees, Entries}
use Rattle.resb_tree.specs.Tree.{no_entries, entry}
use Rattle.resb_tree.specs.Equality.{tree_eq}
use Rattle.resb_tree.specs.Maps.{text_cmp}
use Rattle.resb_diff.specs.Differences.{Step, by_key, by_number}
use Rattle.resb_diff.specs.Differences.{Difference, added, removed, changed, differences}
use Rattle.resb_diff.specs.Differences.{member_differences, added_members, entry_differences}
use Rattle.resb_diff.specs.Differences.{added_entries}
use Rattle.resb_diff.specs.Applied.{path_of}
use Rattle.resb_diff.proofs.SoLemmas.{Beyond, AllBeyond, all_append, at_order, unbound}
use Rattle.resb_diff.proofs.BehindLemmas.{behind, all_behind, at_number}
use Rattle.resb_diff.proofs.AppliedLemmas.{AllIn, IsDeep, HasStep, FirstBeyond}

-- what is so of each path with a step before is so of differences there
pub behind_in : (P : List Step → Type 0) (s : Step) → ((p : List Step) → P (s ∷ p))
    → (ds : List Difference) → AllIn P (map (behind s) ds)
behind_in P s f [] = tt
behind_in P s f (added p u ∷ ds) = (f p, behind_in P s f ds)
behind_in P s f (removed p t ∷ ds) = (f p, behind_in P s f ds)
behind_in P s f (changed p t u ∷ ds) = (f p, behind_in P s f ds)

pub number_in : (P : List Step → Type 0) (n : ℕ) (t u : Tree)
    → ((p : List Step) → P (by_number n ∷ p)) → AllIn P (differences (by_number n ∷ []) t u)
number_in P n t u f =
    subst (λ ds. AllIn P ds) (sym (at_number n t u))
    (behind_in P (by_number n) f (differences [] t u))

pub key_in : (P : List Step → Type 0) (k : List ℕ) (t u : Tree)
    → ((p : List Step) → P (by_key k ∷ p)) → AllIn P (differences (by_key k ∷ []) t u)
key_in P k t u f =
    subst (λ ds. AllIn P ds) (sym (all_behind (by_key k) [] t u))
    (behind_in P (by_key k) f (differences [] t u))

pub added_in : (n : ℕ) (us : Trees) → AllIn HasStep (added_members [] n us)
added_in n no_trees = tt
added_in n (more_trees u us) = (tt, added_in (n + 1) us)

pub members_in : (n : ℕ) (ts us : Trees) → AllIn HasStep (member_differences [] n ts us)
members_in n no_trees us = added_in n us
members_in n (more_trees t ts) no_trees = (tt, members_in (n + 1) ts no_trees)
members_in n (more_trees t ts) (more_trees u us) =
    all_append (λ d. HasStep (path_of d)) _ _ (number_in HasStep n t u (λ p. tt))
    (members_in (n + 1) ts us)

pub added_beyond : (b : Option (List ℕ)) (fs : Entries) → AllBeyond b fs
    → AllIn (FirstBeyond b) (added_entries [] fs)
added_beyond b no_entries g = tt
added_beyond b (entry l u fs) g = (g.0, added_beyond b fs g.1)

next_beyond : (b : Option (List ℕ)) (k : List ℕ) (t : Tree) (es : Entries) → Beyond b k
    → ((gs : Entries) → AllBeyond b gs → AllIn (FirstBeyond b) (entry_differences [] es gs))
    → (fs : Entries) → AllBeyond b fs
    → AllIn (FirstBeyond b) (entry_differences [] (entry k t es) fs)
next_beyond b k t es h after no_entries g = (h, after no_entries tt)
next_beyond b k t es h after (entry l u fs) g =
    at_order (λ d. FirstBeyond b (path_of d)) (text_cmp k l) _ _ _
    (λ e. (h, after (entry l u fs) g))
    (λ e. all_append (λ d. FirstBeyond b (path_of d)) _ _ (key_in (FirstBeyond b) k t u (λ p. h))
    (after fs g.1))
    (λ e. (g.0, next_beyond b k t es h after fs g.1))

pub entries_beyond : (b : Option (List ℕ)) (es fs : Entries) → AllBeyond b es → AllBeyond b fs
    → AllIn (FirstBeyond b) (entry_differences [] es fs)
entries_beyond b no_entries fs h g = added_beyond b fs g
entries_beyond b (entry k t es) fs h g =
    next_beyond b k t es h.0 (λ gs i. entries_beyond b es gs h.1 i) fs g

in_deep : (P : List Step → Type 0) → (P [] → ⊥) → (ds : List Difference) → AllIn P ds
    → AllByRecursion IsDeep ds
in_deep P f [] h = tt
in_deep P f (added p u ∷ ds) h = (tt, in_deep P f ds h.1)
in_deep P f (changed p t u ∷ ds) h = (tt, in_deep P f ds h.1)
in_deep P f (removed [] t ∷ ds) h = absurd (f h.0)
in_deep P f (removed (s ∷ p) t ∷ ds) h = (tt, in_deep P f ds h.1)

whole_deep : (t u : Tree) (b : Bool)
    → AllByRecursion IsDeep (if b then [] else changed [] t u ∷ [])
whole_deep t u true = tt
whole_deep t u false = (tt, tt)

-- nothing is removed at the root
pub deep : (t u : Tree) → AllByRecursion IsDeep (differences [] t u)
deep (array ts) (array us) = in_deep HasStep (λ h. h) _ (members_in 0 ts us)
deep (table es) (table fs) =
    in_deep (FirstBeyond None) (λ h. h) _ (entries_beyond None es fs (unbound es) (unbound fs))
deep t u = whole_deep t u (tree_eq t u)
