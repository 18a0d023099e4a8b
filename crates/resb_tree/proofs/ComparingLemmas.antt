-- What is still to be compared, as the lists of it grow and shrink.
use Rattle.std.proofs.Common.{◌≡◌, ℕ, ◌+◌, Bool, true, false, ◌&&◌, List, [], ◌∷◌, ◌++◌}
use Rattle.std.proofs.Common.{◌≢◌, length, refl, sym, ap, ◌∙◌, suc, true≢false, arith}
use Rattle.std.specs.Cmp.{second_so}
use Rattle.resb_tree.specs.Equality.{trees_eq, entries_eq}
use Rattle.resb_tree.specs.View.{items_view, entries_view}
use Rattle.resb_tree.specs.Inner.Comparing.{open_eq, to_come, all_eq, all_steps}
use Rattle.resb_tree.specs.declared.equality.Open.{Open}
use Rattle.resb_tree.specs.declared.resource.Resource.{Resource}

no : {A : Type 0} → false ≡ true → A
no e = absurd (true≢false (sym e))

swapped : (a b c : Bool) → (a && (b && c)) ≡ (b && (a && c))
swapped true b c = refl
swapped false true c = refl
swapped false false c = refl

-- all of a list with one more
pub all_eq_more : (os : List Open) (o : Open)
    → all_eq (os ++ o ∷ []) ≡ (open_eq o && all_eq os)
all_eq_more [] o = refl
all_eq_more (p ∷ os) o =
    ap (λ b. open_eq p && b) (all_eq_more os o) ∙ swapped (open_eq p) (open_eq o) (all_eq os)

pub all_steps_more : (os : List Open) (o : Open)
    → all_steps (os ++ o ∷ []) ≡ to_come o + to_come o + 1 + all_steps os
all_steps_more [] o = omega arith
all_steps_more (p ∷ os) o = omega (arith, all_steps_more os o)

-- lists of different lengths are not equal
pub items_of_one_length : (xs ys : List Resource)
    → trees_eq (items_view xs) (items_view ys) ≡ true → length xs ≡ length ys
items_of_one_length [] [] h = refl
items_of_one_length [] (y ∷ ys) h = no h
items_of_one_length (x ∷ xs) [] h = no h
items_of_one_length (x ∷ xs) (y ∷ ys) h =
    ap suc (items_of_one_length xs ys (second_so _ _ h))

pub entries_of_one_length : (xs ys : List (List ℕ × Resource))
    → entries_eq (entries_view xs) (entries_view ys) ≡ true → length xs ≡ length ys
entries_of_one_length [] [] h = refl
entries_of_one_length [] (y ∷ ys) h = no h
entries_of_one_length (x ∷ xs) [] h = no h
entries_of_one_length (x ∷ xs) (y ∷ ys) h =
    ap suc (entries_of_one_length xs ys (second_so _ _ h))

not_true : (b : Bool) → (b ≡ true → ⊥) → b ≡ false
not_true true h = absurd (h refl)
not_true false h = refl

-- so a comparison of them is decided
pub items_differ : (xs ys : List Resource) → length xs ≢ length ys
    → trees_eq (items_view xs) (items_view ys) ≡ false
items_differ xs ys h = not_true _ (λ e. h (items_of_one_length xs ys e))

pub entries_differ : (xs ys : List (List ℕ × Resource)) → length xs ≢ length ys
    → entries_eq (entries_view xs) (entries_view ys) ≡ false
entries_differ xs ys h = not_true _ (λ e. h (entries_of_one_length xs ys e))

-- what the steps of a comparison go by
pub ruleset comparing_steps = (
  all_eq_more,
  all_steps_more,
  items_differ,
  entries_differ,
)
