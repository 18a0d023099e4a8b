-- What is left of entries that stand as a list, and that their keys still ascend.
use Rattle.std.proofs.Common.{◌≡◌, ℕ, List, [], ◌∷◌, ◌++◌, Less, refl, sym, ap, ◌∙◌}
use Rattle.std.proofs.Common.{append-nil, append_assoc}
use Rattle.std.specs.Prelude.{Option, Some, None}
use Rattle.std.specs.List.{AllByRecursion}
use Rattle.std.specs.List.Sorted.{IsStrictlySortedBy}
use Rattle.std.specs.Map.{keys_of}
use Rattle.resb_tree.specs.Maps.{text_cmp}
use Rattle.resb_tree.specs.Tree.{Tree, entries_of, entry}
use Rattle.resb_filter.specs.Filtered.{Rule, entry_before, filtered_entries, entry_left}
use Rattle.resb_filter.specs.Collated.{each_entry}
use Rattle.resb_filter.specs.Inner.Left.{Leaving, one_left, all_left}

before_is : (k : List ℕ) (o : Option Tree) (ps : List (List ℕ × Tree))
    → entry_before k o (entries_of ps) ≡ entries_of (one_left k o ++ ps)
before_is k None ps = refl
before_is k (Some t) ps = refl

-- a table's entries are left so
pub entries_are_left : (rs : List Rule) (ps : List (List ℕ × Tree))
    → filtered_entries rs (entries_of ps) ≡ entries_of (all_left (entry_left rs) ps)
entries_are_left rs [] = refl
entries_are_left rs (p ∷ ps) =
    ap (entry_before p.0 (entry_left rs p.0 p.1)) (entries_are_left rs ps)
    ∙ before_is p.0 (entry_left rs p.0 p.1) (all_left (entry_left rs) ps)

-- entries that are changed each
pub entries_are_changed : (f : List ℕ → Tree → Tree) (ps : List (List ℕ × Tree))
    → each_entry f (entries_of ps) ≡ entries_of (all_left (λ k t. Some (f k t)) ps)
entries_are_changed f [] = refl
entries_are_changed f (p ∷ ps) = ap (entry p.0 (f p.0 p.1)) (entries_are_changed f ps)

-- with one more entry behind the others
pub all_left-push : (f : Leaving) (ps : List (List ℕ × Tree)) (p : List ℕ × Tree)
    → all_left f (ps ++ p ∷ []) ≡ all_left f ps ++ one_left p.0 (f p.0 p.1)
all_left-push f [] p = append-nil (one_left p.0 (f p.0 p.1))
all_left-push f (q ∷ ps) p =
    let first = one_left q.0 (f q.0 q.1) in
    ap (λ l. first ++ l) (all_left-push f ps p)
    ∙ sym (append_assoc first (all_left f ps) (one_left p.0 (f p.0 p.1)))

below_one : (k l : List ℕ) (o : Option Tree) (qs : List (List ℕ × Tree)) → text_cmp k l ≡ Less
    → AllByRecursion (λ y. text_cmp k y ≡ Less) (keys_of qs)
    → AllByRecursion (λ y. text_cmp k y ≡ Less) (keys_of (one_left l o ++ qs))
below_one k l None qs e h = h
below_one k l (Some t) qs e h = (e, h)

below_left : (k : List ℕ) (f : Leaving) (ps : List (List ℕ × Tree))
    → AllByRecursion (λ y. text_cmp k y ≡ Less) (keys_of ps)
    → AllByRecursion (λ y. text_cmp k y ≡ Less) (keys_of (all_left f ps))
below_left k f [] h = tt
below_left k f (p ∷ ps) h =
    below_one k p.0 (f p.0 p.1) (all_left f ps) h.0 (below_left k f ps h.1)

sorted_one : (l : List ℕ) (o : Option Tree) (qs : List (List ℕ × Tree))
    → AllByRecursion (λ y. text_cmp l y ≡ Less) (keys_of qs)
    → IsStrictlySortedBy text_cmp (keys_of qs)
    → IsStrictlySortedBy text_cmp (keys_of (one_left l o ++ qs))
unfolding IsStrictlySortedBy
sorted_one l None qs h s = s
sorted_one l (Some t) qs h s = (h, s)

-- keys that ascend do so among the entries that are left
pub left_sorted : (f : Leaving) (ps : List (List ℕ × Tree))
    → IsStrictlySortedBy text_cmp (keys_of ps)
    → IsStrictlySortedBy text_cmp (keys_of (all_left f ps))
unfolding IsStrictlySortedBy
left_sorted f [] h = tt
left_sorted f (p ∷ ps) h =
    sorted_one p.0 (f p.0 p.1) (all_left f ps) (below_left p.0 f ps h.0)
    (left_sorted f ps h.1)
