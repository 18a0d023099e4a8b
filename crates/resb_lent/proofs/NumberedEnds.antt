-- Keys whose last bytes differ compare as the numbers of these.
use Rattle.std.proofs.Common.{◌≡◌, ℕ, zero, suc, ◌+◌, ◌-◌, ◌*◌, ◌<◌, ◌≤◌, List, [], ◌∷◌, length}
use Rattle.std.proofs.Common.{get_or, reverse, ◌++◌, inl, inr, refl, sym, ◌∙◌, ap, subst, arith}
use Rattle.std.specs.Cmp.{nat_cmp_is}
use Rattle.std.specs.Ordering.{ordering_then}
use Rattle.std.specs.declared.cmp.Ordering.TheVariants.{Less, Equal, Greater}
use Rattle.std.proofs.lemmas.Bool.{cases_lt}
use Rattle.std.proofs.lemmas.List.{get_or-reverse, get_or_past, length-reverse, length_push}
use Rattle.std.proofs.lemmas.List.{get_or_append_left, get_or_push}
use Rattle.resb_pool.specs.Inner.Suffixes.{key_of_digits}
use Rattle.resb_pool.specs.Order.{end_last_cmp}
use Rattle.resb_lent.specs.Inner.EndNumbers.{end_number, AreBytes, AreNumbers}
use Rattle.resb_lent.specs.declared.ends.LentRun.{LentRun}
use Rattle.resb_lent.proofs.Lying.{turned}

tail_bytes : (x : ℕ) (xs : List ℕ) → AreBytes (x ∷ xs) → AreBytes xs
tail_bytes x xs h = λ k. h (suc k)

-- a smaller number in front stays smaller
less_kept : (n a b : ℕ) (xs ys : List ℕ) → AreBytes xs → a < b
    → key_of_digits a n xs < key_of_digits b n ys
less_kept zero a b xs ys s l = l
less_kept (suc n) a b [] [] s l =
    less_kept n (a * 256 + 255) (b * 256 + 255) [] [] s (omega (arith, l))
less_kept (suc n) a b [] (y ∷ ys) s l =
    less_kept n (a * 256 + 255) (b * 256 + y) [] ys s (omega (arith, l))
less_kept (suc n) a b (x ∷ xs) [] s l =
    less_kept n (a * 256 + x) (b * 256 + 255) xs [] (tail_bytes x xs s) (omega (arith, l, s 0))
less_kept (suc n) a b (x ∷ xs) (y ∷ ys) s l =
    less_kept n (a * 256 + x) (b * 256 + y) xs ys (tail_bytes x xs s) (omega (arith, l, s 0))

-- the end is the greatest
greatest : (n a b : ℕ) (ys : List ℕ) → AreBytes ys → b ≤ a
    → key_of_digits b n ys ≤ key_of_digits a n []
greatest zero a b ys t l = l
greatest (suc n) a b [] t l = greatest n (a * 256 + 255) (b * 256 + 255) [] t (omega (arith, l))
greatest (suc n) a b (y ∷ ys) t l =
    greatest n (a * 256 + 255) (b * 256 + y) ys (tail_bytes y ys t) (omega (arith, l, t 0))

order_of : (n a : ℕ) (xs ys : List ℕ) → AreBytes xs → AreBytes ys
    → key_of_digits a n xs < key_of_digits a n ys → end_last_cmp xs ys ≡ Less
order_of zero a xs ys s t l = absurd (omega (arith, l))
order_of (suc n) a [] [] s t l = order_of n (a * 256 + 255) [] [] s t l
order_of (suc n) a [] (y ∷ ys) s t l = absurd (omega (
  arith,
  l,
  greatest n (a * 256 + 255) (a * 256 + y) ys (tail_bytes y ys t) (omega (arith, t 0)),
))
order_of (suc n) a (x ∷ xs) [] s t l = refl
order_of (suc n) a (x ∷ xs) (y ∷ ys) s t l = elim (cases_lt x y) [
  | inl less ↦ ap (λ o. ordering_then o (end_last_cmp xs ys)) (sym (nat_cmp_is x y Less less))
  | inr least ↦ elim (cases_lt y x) [
    | inl more ↦ absurd (omega (
      arith,
      l,
      less_kept n (a * 256 + y) (a * 256 + x) ys xs (tail_bytes y ys t) (omega (arith, more)),
    ))
    | inr less ↦
        let e : x ≡ y = omega (arith, least, less) in
        ap (λ o. ordering_then o (end_last_cmp xs ys)) (sym (nat_cmp_is x y Equal e))
        ∙ order_of n (a * 256 + x) xs ys (tail_bytes x xs s) (tail_bytes y ys t)
        (subst (λ z. key_of_digits (a * 256 + x) n xs < key_of_digits (a * 256 + z) n ys) (sym e) l)
  ]
]

backwards : (bs : List ℕ) → AreBytes bs → AreBytes (reverse bs)
backwards bs h k = elim (cases_lt k (length bs)) [
  | inl l ↦ omega (arith, get_or-reverse bs k 0 l, h (length bs - 1 - k))
  | inr m ↦ omega (arith, get_or_past (reverse bs) k 0 (omega (arith, m, length-reverse bs)))
]

module _ (l r : List ℕ) (s : AreBytes l) (t : AreBytes r) where
  pub less_ends : end_number l < end_number r
      → end_last_cmp (reverse l) (reverse r) ≡ Less
  less_ends h = order_of 8 0 (reverse l) (reverse r) (backwards l s) (backwards r t) h

  pub greater_ends : end_number r < end_number l
      → end_last_cmp (reverse l) (reverse r) ≡ Greater
  greater_ends h = turned (reverse r) (reverse l) Less
      (order_of 8 0 (reverse r) (reverse l) (backwards r t) (backwards l s) h)

pub number_is : (bs : List ℕ) → key_of_digits 0 8 bs
    ≡ get_or bs 0 255 * 0x100_0000_0000_0000 + get_or bs 1 255 * 0x1_0000_0000_0000
    + get_or bs 2 255 * 0x100_0000_0000 + get_or bs 3 255 * 0x1_0000_0000
    + get_or bs 4 255 * 0x100_0000 + get_or bs 5 255 * 0x1_0000 + get_or bs 6 255 * 0x100
    + get_or bs 7 255
number_is [] = omega arith
number_is (a ∷ []) = omega arith
number_is (a ∷ b ∷ []) = omega arith
number_is (a ∷ b ∷ c ∷ []) = omega arith
number_is (a ∷ b ∷ c ∷ d ∷ []) = omega arith
number_is (a ∷ b ∷ c ∷ d ∷ e ∷ []) = omega arith
number_is (a ∷ b ∷ c ∷ d ∷ e ∷ f ∷ []) = omega arith
number_is (a ∷ b ∷ c ∷ d ∷ e ∷ f ∷ g ∷ []) = omega arith
number_is (a ∷ b ∷ c ∷ d ∷ e ∷ f ∷ g ∷ h ∷ bs) = omega arith

-- one key more
pub numbers_push : (rs : List LentRun) (ns : List ℕ) (r : LentRun) (n : ℕ) → AreNumbers rs ns
    → n ≡ end_number r.bytes.now → AreBytes r.bytes.now
    → AreNumbers (rs ++ r ∷ []) (ns ++ n ∷ [])
numbers_push rs ns r n h e b = record {
  len = omega (arith, length_push ns n, length_push rs r, h.len);
  each = λ k d l. elim (cases_lt k (length rs)) [
    | inl m ↦
        subst (λ z. (get_or (ns ++ n ∷ []) k 0 ≡ end_number z.bytes.now) × AreBytes z.bytes.now)
        (sym (get_or_append_left rs (r ∷ []) d k m))
        (subst (λ z. (z ≡ end_number (get_or rs k d).bytes.now)
        × AreBytes (get_or rs k d).bytes.now)
        (sym (get_or_append_left ns (n ∷ []) 0 k (omega (arith, m, h.len)))) (h.each k d m))
    | inr m ↦
        let is : k ≡ length rs = omega (arith, m, l, length_push rs r) in
        subst (λ z. (get_or (ns ++ n ∷ []) k 0 ≡ end_number z.bytes.now) × AreBytes z.bytes.now)
        (sym (get_or_push rs r d k (sym is)))
        (get_or_push ns n 0 k (h.len ∙ sym is) ∙ e, b)
  ];
}
