-- Lists of bytes in their order from the end, in which an end is the greatest.
use Rattle.std.proofs.Common.{◌≡◌, ℕ, ◌+◌, ◌-◌, ◌<◌, List, [], ◌∷◌, ◌⊎◌, inl, inr, refl, sym}
use Rattle.std.proofs.Common.{◌∙◌, ap, arith, length, get_or, reverse, drop, min}
use Rattle.std.specs.Cmp.{nat_cmp_is}
use Rattle.std.specs.Ordering.{nat_cmp, ordering_then}
use Rattle.std.specs.declared.cmp.Ordering.{Ordering}
use Rattle.std.specs.declared.cmp.Ordering.TheVariants.{Less, Equal, Greater}
use Rattle.std.proofs.lemmas.Bool.{cases_lt}
use Rattle.std.proofs.lemmas.Cmp.{nat_cmp_total, ranked, by_ranked, tied_itself}
use Rattle.std.proofs.lemmas.List.{get_or-reverse, drop_more, length-reverse, length-drop}
use Rattle.resb_pool.specs.Order.{end_last_cmp}

then_equal : (o p : Ordering) → o ≡ Equal → ordering_then o p ≡ p
then_equal o p e = rw e refl

-- two lists, where they are the same up to a place, and what stands at it
module _ (l r : List ℕ) (i : ℕ) (in_left : i < length l) (in_right : i < length r) where
  abbrev left : ℕ
  left = get_or l (length l - 1 - i) 0

  abbrev right : ℕ
  right = get_or r (length r - 1 - i) 0

  from_place : end_last_cmp (drop i (reverse l)) (drop i (reverse r))
      ≡ ordering_then (nat_cmp left right)
      (end_last_cmp (drop (i + 1) (reverse l)) (drop (i + 1) (reverse r)))
  from_place =
      let m : i < length (reverse l) = omega (arith, in_left, length-reverse l) in
      let n : i < length (reverse r) = omega (arith, in_right, length-reverse r) in
      (λ j. end_last_cmp (drop_more (reverse l) i 0 m j) (drop_more (reverse r) i 0 n j))
      ∙ (λ j. ordering_then
      (nat_cmp (get_or-reverse l i 0 in_left j) (get_or-reverse r i 0 in_right j))
      (end_last_cmp (drop (i + 1) (reverse l)) (drop (i + 1) (reverse r))))

  pub differ_here : (left ≡ right → ⊥)
      → end_last_cmp (drop i (reverse l)) (drop i (reverse r)) ≡ nat_cmp left right
  differ_here ne = from_place ∙ decided (nat_cmp left right) _ (λ e. ne (tied e))
    where
      decided : (o p : Ordering) → (o ≡ Equal → ⊥) → ordering_then o p ≡ o
      decided Less p n = refl
      decided Equal p n = absurd (n refl)
      decided Greater p n = refl

      tied : nat_cmp left right ≡ Equal → left ≡ right
      tied e = by_ranked (left < right) (left ≡ right) (right < left) (nat_cmp left right)
          (ranked left right (nat_cmp left right) refl) (λ o h. cc) (λ o h. h) (λ o h. cc)

  pub same_here : left ≡ right → end_last_cmp (drop i (reverse l)) (drop i (reverse r))
      ≡ end_last_cmp (drop (i + 1) (reverse l)) (drop (i + 1) (reverse r))
  same_here e = from_place ∙ then_equal (nat_cmp left right) _ (ap (nat_cmp left) (sym e)
      ∙ tied_itself nat_cmp_total left)

-- behind the end of the shorter list the lengths decide
shorter : (a b : List ℕ) → (length a ≡ 0) ⊎ (length b ≡ 0)
    → end_last_cmp a b ≡ nat_cmp (length b) (length a)
shorter [] [] h = refl
shorter [] (y ∷ b) h = nat_cmp_is (length (y ∷ b)) 0 Greater (omega arith)
shorter (x ∷ a) [] h = nat_cmp_is 0 (length (x ∷ a)) Less (omega arith)
shorter (x ∷ a) (y ∷ b) (inl e) = absurd (omega (arith, e))
shorter (x ∷ a) (y ∷ b) (inr e) = absurd (omega (arith, e))

pub exhausted : (l r : List ℕ) (i : ℕ) → i ≡ min (length l) (length r)
    → end_last_cmp (drop i (reverse l)) (drop i (reverse r)) ≡ nat_cmp (length r) (length l)
exhausted l r i e =
    let a = drop i (reverse l) in
    let b = drop i (reverse r) in
    let m : length a ≡ length l - i =
    length-drop i (reverse l) ∙ ap (λ n. n - i) (length-reverse l) in
    let n : length b ≡ length r - i =
    length-drop i (reverse r) ∙ ap (λ n. n - i) (length-reverse r) in
    shorter a b (one (length l) (length r) (length a) (length b) i e m n)
    ∙ nat_cmp_is (length r) (length l) (nat_cmp (length b) (length a))
    (by_ranked (length b < length a) (length b ≡ length a) (length a < length b)
    (nat_cmp (length b) (length a)) (ranked (length b) (length a) _ refl)
    (λ o h. rw o (omega (arith, h, m, n))) (λ o h. rw o (omega (arith, h, m, n, e)))
    (λ o h. rw o (omega (arith, h, m, n))))
  where
    one : (x y a b i : ℕ) → i ≡ min x y → a ≡ x - i → b ≡ y - i → (a ≡ 0) ⊎ (b ≡ 0)
    one x y a b i e m n = elim (cases_lt x y) [
      | inl h ↦ inl (omega (arith, h, e, m))
      | inr h ↦ inr (omega (arith, h, e, n))
    ]
