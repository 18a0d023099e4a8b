-- Numbers and how they compare, and two comparisons in a row: what names no word of this project.
use Rattle.std.proofs.Common.{◌≡◌, ℕ, ◌<◌, ◌⊎◌, inl, inr, refl, ◌∙◌, ap, sym, suc, ◌+◌, arith}
use Rattle.std.proofs.Common.{false, zero, nat_eq, ◌≤◌, List, [], ◌∷◌}
use Rattle.std.specs.List.{Contains}
use Rattle.std.specs.Ordering.{nat_cmp, ordering_reverse, ordering_then, is_lt}
use Rattle.std.specs.declared.cmp.Ordering.{Ordering}
use Rattle.std.specs.declared.cmp.Ordering.TheVariants.{Less, Equal, Greater}
use Rattle.std.proofs.lemmas.Cmp.{nat_cmp_total, ranked, by_ranked, tied_itself}
use Rattle.std.proofs.lemmas.Bool.{cases_lt, cases_eq, ne_eqb}

-- how two numbers compare, both ways
pub cmp_both_ways : (x y : ℕ) → ((nat_cmp x y ≡ Less) × (nat_cmp y x ≡ Greater))
    ⊎ (((nat_cmp x y ≡ Equal) × (nat_cmp y x ≡ Equal) × (x ≡ y))
    ⊎ ((nat_cmp x y ≡ Greater) × (nat_cmp y x ≡ Less)))
cmp_both_ways x y =
    let back : (a b : ℕ) (o : Ordering) → nat_cmp a b ≡ o → nat_cmp b a ≡ ordering_reverse o =
    λ a b o e. nat_cmp_total.antisymm b a ∙ ap ordering_reverse e in
    by_ranked (x < y) (x ≡ y) (y < x) (nat_cmp x y) (ranked x y (nat_cmp x y) refl)
    (λ e _. inl (e, back x y Less e)) (λ e h. inr (inl (e, back x y Equal e, h)))
    (λ e _. inr (inr (e, back x y Greater e)))

-- of two comparisons in a row, the first decides where it tells a difference
pub ordering_then_less : (o p : Ordering) → o ≡ Less → ordering_then o p ≡ Less
ordering_then_less o p e = rw e refl

pub ordering_then_greater : (o p : Ordering) → o ≡ Greater → ordering_then o p ≡ Greater
ordering_then_greater o p e = rw e refl

-- and the second where it tells none
pub ordering_then_equal : (o p : Ordering) → o ≡ Equal → ordering_then o p ≡ p
ordering_then_equal o p e = rw e refl

-- two numbers that differ decide
pub ordering_then_differs : (x y : ℕ) (o : Ordering) → (x ≡ y → ⊥)
    → ordering_then (nat_cmp x y) o ≡ nat_cmp x y
ordering_then_differs x y o ne = elim (cmp_both_ways x y) [
  | inl h ↦ ordering_then_less (nat_cmp x y) o h.0 ∙ sym h.0
  | inr (inl h) ↦ absurd (ne h.2)
  | inr (inr h) ↦ ordering_then_greater (nat_cmp x y) o h.0 ∙ sym h.0
]

-- a number is below another, the same, or above it
pub three_ways : (P : Type 0) (x y : ℕ) → (nat_cmp x y ≡ Less → P) → (x ≡ y → P) → (y < x → P) → P
three_ways P x y less same more = by_ranked (x < y) (x ≡ y) (y < x) (nat_cmp x y)
    (ranked x y (nat_cmp x y) refl) (λ e h. less e) (λ e h. same h) (λ e h. more h)

-- where the first of two comparisons says that one thing stands before another, so do both
pub less_is_first : (o p : Ordering) → o ≡ Less → is_lt (ordering_then o p) ≡ false → ⊥
less_is_first o p f g = cc (ap is_lt (ordering_then_less o p f), g)

-- of two comparisons in a row, what ties by the first goes by the second
pub tied_first : (a b : ℕ) (o : Ordering) → a ≡ b → is_lt (ordering_then (nat_cmp a b) o) ≡ false
    → is_lt o ≡ false
tied_first a b o f e = sym (ap is_lt (ap (λ z. ordering_then (nat_cmp a z) o) (sym f)
    ∙ ordering_then_equal (nat_cmp a a) o (tied_itself nat_cmp_total a))) ∙ e

-- not before by two comparisons in a row, nor where the second one is another that says no more
pub ordering_then_not_before : (o p q : Ordering) → (is_lt p ≡ false → is_lt q ≡ false)
    → is_lt (ordering_then o p) ≡ false → is_lt (ordering_then o q) ≡ false
ordering_then_not_before Less p q f h = h
ordering_then_not_before Equal p q f h = f h
ordering_then_not_before Greater p q f h = h

-- how two numbers compare, and what that says
pub cmp_cases : (x y : ℕ) → ((nat_cmp x y ≡ Less) × (x < y)) ⊎ (((nat_cmp x y ≡ Equal) × (x ≡ y))
    ⊎ ((nat_cmp x y ≡ Greater) × (y < x)))
cmp_cases x y = by_ranked (x < y) (x ≡ y) (y < x) (nat_cmp x y) (ranked x y (nat_cmp x y) refl)
    (λ e h. inl (e, h)) (λ e h. inr (inl (e, h))) (λ e h. inr (inr (e, h)))

-- numbers that compare as the same are
pub cmp_equal : (x y : ℕ) → nat_cmp x y ≡ Equal → x ≡ y
cmp_equal x y e = elim (cmp_cases x y) [
  | inl l ↦ let f = sym e ∙ l.0 in cc
  | inr (inl s) ↦ s.1
  | inr (inr g) ↦ let f = sym e ∙ g.0 in cc
]

-- below the next number is below this one, or this one
pub old_or_new : (n k : ℕ) → k < n + 1 → (k < n) ⊎ (k ≡ n)
old_or_new n k l = elim (cases_lt k n) [ inl h ↦ inl h | inr h ↦ inr (omega arith) ]

-- a number is in a list, or it isn't
pub is_in : (ns : List ℕ) (n : ℕ) → Contains ns n ⊎ (Contains ns n → ⊥)
is_in [] n = inr (λ c. omega (arith, c.1))
is_in (m ∷ ns) n = elim (cases_eq m n) [
  | inl e ↦ inl (0, omega arith, e)
  | inr ne ↦ elim (is_in ns n) [
    | inl c ↦ inl (suc c.0, omega (arith, c.1), c.2)
    | inr none ↦ inr (λ c. later ne none c)
  ]
]
  where
    later : (m ≡ n → ⊥) → (Contains ns n → ⊥) → Contains (m ∷ ns) n → ⊥
    later ne none (zero, lt, is) = ne is
    later ne none (suc k, lt, is) = none (k, omega (arith, lt), is)

-- a number that is not 0 is positive
pub more_than_zero : (n : ℕ) → (n ≡ 0 → ⊥) → 0 < n
more_than_zero zero f = absurd (f refl)
more_than_zero (suc n) f = omega arith

-- the test for 0 fails at a positive number
pub positive_is_not_zero : (n : ℕ) → 0 < n → nat_eq n 0 ≡ false
positive_is_not_zero n h = ne_eqb n 0 (λ (e : n ≡ 0). omega arith)

-- of two sums, the one whose first part is 0 is at most the other
pub size_le : (m n a b : ℕ) → m ≡ 0 → a ≤ b → m + a + 1 ≤ n + b + 1
size_le m n a b e h = omega arith
