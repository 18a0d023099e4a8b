-- Parts of lists, and tests of numbers and bytes.
use Rattle.std.proofs.Common.{ℕ, List, [], ◌∷◌, ◌≡◌, ◌≢◌, ◌+◌, ◌-◌, ◌<◌, ◌≤◌, ◌⊎◌, inl, inr, min}
use Rattle.std.proofs.Common.{length, take, drop, refl, sym, ap, ◌∙◌, arith, slice_range}
use Rattle.std.proofs.Common.{Bool, true, false, nat_eq, nat_le, nat_lt, ◌&&◌, zero, suc}
use Rattle.std.specs.Str.{bytes_eq, IsAscii, IsNotAscii}
use Rattle.std.specs.List.{list_all}
use Rattle.std.proofs.lemmas.Slice.Eq.{bytes_eq-Decides}
use Rattle.std.proofs.lemmas.Bool.{leb-true, lt-ltb}
use Rattle.std.proofs.lemmas.Bool.Decides.{nat_tests}
use Rattle.std.proofs.lemmas.List.{take_min, drop_min, drop-take, length-take}
use Rattle.std.proofs.Math.ListN.{drop_of_length-le}

-- one of two numbers is no greater than the other
pub le_or_lt : (a b : ℕ) → (a ≤ b) ⊎ (b < a)
le_or_lt a b = elim (nat_le a b) as (λ t. nat_le a b ≡ t → (a ≤ b) ⊎ (b < a)) [
  | true ↦ (λ e. inl (leb-true a b e))
  | false ↦ (λ e. inr (grind (arith, nat_tests)))
] refl

-- a part that is cut off at the end
drop_taken : (bytes : List ℕ) (from to : ℕ)
    → drop from (take to bytes) ≡ slice_range bytes from to
drop_taken bytes from to = elim (le_or_lt from to) [
  | inl h ↦
      let e : to ≡ from + (to - from) = omega arith in
      ap (λ n. drop from (take n bytes)) e ∙ drop-take from (to - from) bytes
  | inr h ↦
      let few : length (take to bytes) ≤ from = omega (arith, length-take to bytes) in
      let none : to - from ≡ 0 = omega arith in
      drop_of_length-le (take to bytes) few ∙ sym (ap (λ n. take n (drop from bytes)) none)
]

pub cut_is : (bytes : List ℕ) (from to : ℕ)
    → let front = take (min to (length bytes)) bytes in
    drop (min from (length front)) front ≡ slice_range bytes from to
cut_is bytes from to =
    drop_min from (take (min to (length bytes)) bytes)
    ∙ ap (drop from) (take_min to bytes)
    ∙ drop_taken bytes from to

-- a test of equality
pub is_equal : (a b : ℕ) → a ≡ b → nat_eq a b ≡ true
is_equal a b h = grind (arith, nat_tests)

pub is_unequal : (a b : ℕ) → a ≢ b → nat_eq a b ≡ false
is_unequal a b h = grind (arith, nat_tests)

pub bytes_eq_holds : (a b : List ℕ) → a ≡ b → bytes_eq a b ≡ true
bytes_eq_holds a b e = (bytes_eq-Decides a b).1 e

-- the test whether bytes are ASCII
pub ascii_passes : (bytes : List ℕ) → IsAscii bytes → list_all (λ b. nat_lt b 128) bytes ≡ true
ascii_passes [] h = refl
ascii_passes (b ∷ bytes) h =
    rw (lt-ltb b 128 (h 0)) (ascii_passes bytes (λ i. h (suc i)))

pub ascii_fails : (bytes : List ℕ) → IsNotAscii bytes
    → list_all (λ b. nat_lt b 128) bytes ≡ false
ascii_fails [] (i, h) = absurd (omega arith)
ascii_fails (b ∷ bytes) (zero, h) = rw (not_less b 128 h) refl
  where
    not_less : (a c : ℕ) → c ≤ a → nat_lt a c ≡ false
    not_less a c h = grind (arith, nat_tests)
ascii_fails (b ∷ bytes) (suc i, h) = ends (nat_lt b 128) (ascii_fails bytes (i, h))
  where
    ends : (t : Bool) → list_all (λ b. nat_lt b 128) bytes ≡ false
        → (t && list_all (λ b. nat_lt b 128) bytes) ≡ false
    ends true e = e
    ends false e = refl

both_true : (s t : Bool) → (s && t) ≡ true → (s ≡ true) × (t ≡ true)
both_true true t e = (refl, e)
both_true false t e = cc

pub ascii_told : (bytes : List ℕ) → list_all (λ b. nat_lt b 128) bytes ≡ true → IsAscii bytes
ascii_told [] h i = omega arith
ascii_told (b ∷ bytes) h zero =
    let e = (both_true _ _ h).0 in less b 128 e
  where
    less : (a c : ℕ) → nat_lt a c ≡ true → a < c
    less a c e = grind (arith, nat_tests)
ascii_told (b ∷ bytes) h (suc i) = ascii_told bytes (both_true _ _ h).1 i
