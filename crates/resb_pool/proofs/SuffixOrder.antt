-- The suffix order is total, and what ends with a text stands just before it.
use Rattle.std.proofs.Common.{◌≡◌, ℕ, List, [], ◌∷◌, ◌++◌, inl, inr, refl, sym, ◌∙◌, ap}
use Rattle.std.proofs.Common.{subst, append-nil}
use Rattle.std.specs.Cmp.{IsTotalOrder}
use Rattle.std.specs.Cmp.Lexicographic.{slice_cmp}
use Rattle.std.specs.Ordering.{nat_cmp, ordering_then}
use Rattle.std.specs.declared.cmp.Ordering.{Ordering}
use Rattle.std.specs.declared.cmp.Ordering.TheVariants.{Equal}
use Rattle.std.proofs.lemmas.Cmp.{lists_total, then_total, on_total, nat_cmp_total, tied_itself}
use Rattle.resb_pool.specs.Order.{end_last_cmp}
use Rattle.resb_pool.specs.Inner.Extends.{Extends, Before, NotAfter}
use Rattle.resb_pool.proofs.Numbers.{cmp_both_ways, ordering_then_less, ordering_then_greater}
use Rattle.resb_pool.proofs.Numbers.{ordering_then_equal}

-- the letters and then the end, which is above each letter
marked : List ℕ → List (ℕ × ℕ)
marked [] = (1, 0) ∷ []
marked (x ∷ xs) = (0, x) ∷ marked xs

abbrev by_pair : ℕ × ℕ → ℕ × ℕ → Ordering
by_pair p q = ordering_then (nat_cmp p.0 q.0) (nat_cmp p.1 q.1)

by_pair_total : IsTotalOrder by_pair
by_pair_total = then_total (on_total (λ (p : ℕ × ℕ). p.0) nat_cmp_total)
    (on_total (λ (p : ℕ × ℕ). p.1) nat_cmp_total)

as_marked : (xs ys : List ℕ) → slice_cmp by_pair (marked xs) (marked ys) ≡ end_last_cmp xs ys
unfolding marked
as_marked [] [] = refl
as_marked [] (y ∷ ys) = refl
as_marked (x ∷ xs) [] = refl
as_marked (x ∷ xs) (y ∷ ys) = ap (ordering_then (nat_cmp x y)) (as_marked xs ys)

pub end_last_total : IsTotalOrder end_last_cmp
end_last_total =
    let o : IsTotalOrder (λ xs ys. slice_cmp by_pair (marked xs) (marked ys)) =
    on_total marked (lists_total by_pair_total) in
    subst (λ (R : List ℕ → List ℕ → Ordering). IsTotalOrder R) (λ i x y. as_marked x y i) o

-- texts that tie are one text
pub tied_same : (xs ys : List ℕ) → end_last_cmp xs ys ≡ Equal → xs ≡ ys
tied_same [] [] e = refl
tied_same [] (y ∷ ys) e = cc
tied_same (x ∷ xs) [] e = cc
tied_same (x ∷ xs) (y ∷ ys) e = elim (cmp_both_ways x y) [
  | inl h ↦ cc (ordering_then_less (nat_cmp x y) (end_last_cmp xs ys) h.0)
  | inr (inl h) ↦ (let k = tied_same xs ys
      (sym (ordering_then_equal (nat_cmp x y) (end_last_cmp xs ys) h.0) ∙ e) in cc)
  | inr (inr h) ↦ cc (ordering_then_greater (nat_cmp x y) (end_last_cmp xs ys) h.0)
]

longer_before : (s : List ℕ) (z : ℕ) (rest : List ℕ) → Before (s ++ z ∷ rest) s
longer_before [] z rest = refl
longer_before (x ∷ s) z rest = ordering_then_equal (nat_cmp x x) (end_last_cmp (s ++ z ∷ rest) s)
    (tied_itself nat_cmp_total x) ∙ longer_before s z rest

-- what extends a text stands before it
pub extends_before : (t s : List ℕ) → Extends t s → (t ≡ s → ⊥) → Before t s
extends_before t s h ne = before s t h.rest h.is ne
  where
    before : (s t r : List ℕ) → t ≡ s ++ r → (t ≡ s → ⊥) → Before t s
    before s t [] e ne = absurd (ne (e ∙ append-nil s))
    before s t (z ∷ r) e ne = ap (λ l. end_last_cmp l s) e ∙ longer_before s z r

pub extends_not_after : (t s : List ℕ) → Extends t s → NotAfter t s
extends_not_after t s h = by_rest t s h.rest h.is
  where
    by_rest : (t s r : List ℕ) → t ≡ s ++ r → NotAfter t s
    by_rest t s [] e f = cc (tied_itself end_last_total s, e ∙ append-nil s, f)
    by_rest t s (z ∷ r) e f =
        let before : Before t s = ap (λ l. end_last_cmp l s) e ∙ longer_before s z r in cc

-- what stands between a text and what ends with it ends with it too
pub between : (t q s : List ℕ) → NotAfter t q → Before q s → Extends t s → Extends q s
between t q s n b h = by_rest t q s h.rest h.is n b
  where
    by_rest : (t q s r : List ℕ) → t ≡ s ++ r → NotAfter t q → Before q s → Extends q s
    by_rest t q [] r e n b = record { rest = q; is = refl }
    by_rest t [] (x ∷ s) r e n b = cc
    by_rest [] (y ∷ q) (x ∷ s) r e n b = cc
    by_rest (z ∷ t) (y ∷ q) (x ∷ s) r e n b =
        let zx : z ≡ x = cc in
        let f : t ≡ s ++ r = cc in
        elim (cmp_both_ways y x) [
          | inl h ↦ absurd (n (ap (λ c. ordering_then (nat_cmp c y) (end_last_cmp t q)) zx
              ∙ ordering_then_greater (nat_cmp x y) (end_last_cmp t q) h.1))
          | inr (inl h) ↦
              let k = by_rest t q s r f
              (λ g. n (ap (λ c. ordering_then (nat_cmp c y) (end_last_cmp t q)) zx
              ∙ ordering_then_equal (nat_cmp x y) (end_last_cmp t q) h.1 ∙ g))
              (sym (ordering_then_equal (nat_cmp y x) (end_last_cmp q s) h.0) ∙ b) in
              let g : y ∷ q ≡ x ∷ (s ++ k.rest) = cc in
              record { rest = k.rest; is = g }
          | inr (inr h) ↦ cc (ordering_then_greater (nat_cmp y x) (end_last_cmp q s) h.0)
        ]
