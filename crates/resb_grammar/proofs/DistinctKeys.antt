-- Keys, each at its first place alone, are distinct.
use Rattle.std.proofs.Common.{◌≡◌, ℕ, Bool, true, false, List, [], ◌∷◌, refl, sym, subst}
use Rattle.std.specs.Prelude.{not, filter, cond}
use Rattle.std.specs.List.{IsDistinct, AllByRecursion}
use Rattle.resb_tree.specs.Keys.{same_text}
use Rattle.resb_grammar.specs.BundleText.{first_places}

-- the keys without one of them
abbrev pub keys_but : List ℕ → List (List ℕ) → List (List ℕ)
keys_but x ks = filter (λ j. not (same_text x j)) ks

-- the key that was taken out differs from what is left
others_differ : (k : List ℕ) (ks : List (List ℕ))
    → AllByRecursion (λ j. same_text k j ≡ false) (keys_but k ks)
others_differ k [] = tt
others_differ k (j ∷ ks) = by (same_text k j) refl (others_differ k ks)
  where
    by : (b : Bool) → same_text k j ≡ b
        → AllByRecursion (λ i. same_text k i ≡ false) (keys_but k ks)
        → AllByRecursion (λ i. same_text k i
        ≡ false) (cond (not b) (j ∷ keys_but k ks) (keys_but k ks))
    by true e rest = rest
    by false e rest = (e, rest)

-- what holds of all keys holds of those that are left
all_others : (P : List ℕ → Type 0) (k : List ℕ) (ks : List (List ℕ)) → AllByRecursion P ks
    → AllByRecursion P (keys_but k ks)
all_others P k [] h = tt
all_others P k (j ∷ ks) h = by (same_text k j) (all_others P k ks h.1)
  where
    by : (b : Bool) → AllByRecursion P (keys_but k ks)
        → AllByRecursion P (cond (not b) (j ∷ keys_but k ks) (keys_but k ks))
    by true rest = rest
    by false rest = (h.0, rest)

distinct_others : (k : List ℕ) (ks : List (List ℕ)) → IsDistinct same_text ks
    → IsDistinct same_text (keys_but k ks)
unfolding IsDistinct
distinct_others k [] h = tt
distinct_others k (j ∷ ks) h =
    by (same_text k j) (all_others (λ i. same_text j i ≡ false) k ks h.0) (distinct_others k ks h.1)
  where
    by : (b : Bool) → AllByRecursion (λ i. same_text j i ≡ false) (keys_but k ks)
        → IsDistinct same_text (keys_but k ks)
        → IsDistinct same_text (cond (not b) (j ∷ keys_but k ks) (keys_but k ks))
    by true all rest = rest
    by false all rest = (all, rest)

-- no two of the keys are equal
pub first_places_distinct : (ks : List (List ℕ)) → IsDistinct same_text (first_places ks)
unfolding IsDistinct
first_places_distinct [] = tt
first_places_distinct (k ∷ ks) = (
  others_differ k (first_places ks),
  distinct_others k (first_places ks) (first_places_distinct ks),
)

-- keys that are the places at which each is first met are distinct
pub distinct_as : (keys ks : List (List ℕ)) → keys ≡ first_places ks → IsDistinct same_text keys
distinct_as keys ks e =
    subst (λ (xs : List (List ℕ)). IsDistinct same_text xs) (sym e) (first_places_distinct ks)
