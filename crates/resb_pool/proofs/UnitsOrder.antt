-- Different characters compare by their 16-bit units as their ranks do.
use Rattle.std.proofs.Common.{◌≡◌, ℕ, ◌+◌, ◌-◌, ◌*◌, ◌/◌, ◌%◌, ◌<◌, ◌≤◌, List, [], ◌∷◌, ◌++◌}
use Rattle.std.proofs.Common.{inl, inr, refl, sym, ◌∙◌, ap, arith, reverse}
use Rattle.std.specs.Cmp.{nat_cmp_is}
use Rattle.std.specs.Cmp.Lexicographic.{slice_cmp}
use Rattle.std.specs.Char.{IsScalar}
use Rattle.std.specs.Char.Escape.{encode_utf16}
use Rattle.std.specs.Ordering.{nat_cmp, ordering_then}
use Rattle.std.specs.declared.cmp.Ordering.{Ordering}
use Rattle.std.specs.declared.cmp.Ordering.TheVariants.{Less, Equal, Greater}
use Rattle.std.proofs.lemmas.Bool.{cases_lt, cases_eq}
use Rattle.std.proofs.lemmas.Bool.Decides.{nat_tests}
use Rattle.std.proofs.lemmas.Cmp.{nat_cmp_total, ranked, by_ranked, tied_itself}
use Rattle.resb_format.proofs.TextUnits.{low_char}
use Rattle.resb_pool.specs.Order.{end_last_cmp}
use Rattle.resb_pool.specs.Inner.Ranks.{last_rank, first_rank}
use Rattle.resb_pool.specs.declared.packing.Packing.TheVariants.{Compact}
use Rattle.resb_pool.proofs.Digits.{small_scalar}
use Rattle.resb_pool.proofs.Numbers.{ordering_then_equal, ordering_then_differs}
use Rattle.resb_pool.proofs.Utf16.{high_char}

-- numbers compare as others that stand in the same order
same_cmp : (x y m n : ℕ) → (x < y → m < n) → (x ≡ y → m ≡ n) → (y < x → n < m)
    → nat_cmp x y ≡ nat_cmp m n
same_cmp x y m n less same more = by_ranked (x < y) (x ≡ y) (y < x) (nat_cmp x y)
    (ranked x y (nat_cmp x y) refl) (λ o h. o ∙ nat_cmp_is m n Less (less h))
    (λ o h. o ∙ nat_cmp_is m n Equal (same h)) (λ o h. o ∙ nat_cmp_is m n Greater (more h))

-- of two units each, the first ones decide where they differ
module _ (x y p q m n : ℕ) (small : p < 0x400) (small' : q < 0x400) (is : m ≡ x * 0x400 + p)
    (is' : n ≡ y * 0x400 + q) where
  by_one : (o : Ordering) → (x ≡ y → ⊥) → ordering_then (nat_cmp x y) o ≡ nat_cmp m n
  by_one o ne = ordering_then_differs x y o ne
      ∙ same_cmp x y m n (λ h. omega (arith, h, small, small', is, is'))
      (λ h. absurd (ne h)) (λ h. omega (arith, h, small, small', is, is'))

  -- and the second ones where they don't
  by_two : (o : Ordering) → (x ≡ y → p ≡ q → ⊥)
      → ordering_then (nat_cmp x y) (ordering_then (nat_cmp p q) o) ≡ nat_cmp m n
  by_two o ne = elim (cases_eq x y) [
    | inl e ↦
        ap (λ z. ordering_then (nat_cmp x z) (ordering_then (nat_cmp p q) o)) (sym e)
        ∙ ordering_then_equal (nat_cmp x x) (ordering_then (nat_cmp p q) o)
        (tied_itself nat_cmp_total x)
        ∙ ordering_then_differs p q o (ne e)
        ∙ same_cmp p q m n (λ h. omega (arith, h, e, is, is')) (λ h. absurd (ne e h))
        (λ h. omega (arith, h, e, is, is'))
    | inr other ↦ by_one (ordering_then (nat_cmp p q) o) other
  ]

no_surrogate : (c : ℕ) → IsScalar c → 0xD800 ≤ c → c ≤ 0xDFFF → ⊥
no_surrogate c s = grind (arith, nat_tests)

-- the first unit of a character beyond U+FFFF, and the second one
abbrev high : ℕ → ℕ
high c = 0xD800 + (c - 0x1_0000) / 0x400

abbrev low : ℕ → ℕ
low c = 0xDC00 + (c - 0x1_0000) % 0x400

low_last : (c : ℕ) → c < 0x1_0000 → last_rank Compact c ≡ c * 0x400
low_last c h = grind (arith, nat_tests)

far_last : (c : ℕ) → 0x1_0000 ≤ c
    → last_rank Compact c ≡ low c * 0x400 + (c - 0x1_0000) / 0x400
far_last c h = grind (arith, nat_tests)

low_first : (c : ℕ) → c < 0x1_0000 → first_rank c ≡ c * 0x400
low_first c h = grind (arith, nat_tests)

far_first : (c : ℕ) → 0x1_0000 ≤ c → first_rank c ≡ high c * 0x400 + (c - 0x1_0000) % 0x400
far_first c h = grind (arith, nat_tests)

-- of the second units, by what they are above the first ones of all
low_cmp : (c d : ℕ) → nat_cmp (low c) (low d)
    ≡ nat_cmp ((c - 0x1_0000) % 0x400) ((d - 0x1_0000) % 0x400)
low_cmp c d = same_cmp (low c) (low d) ((c - 0x1_0000) % 0x400) ((d - 0x1_0000) % 0x400)
    (λ h. omega (arith, h)) (λ h. omega (arith, h)) (λ h. omega (arith, h))

high_cmp : (c d : ℕ) → nat_cmp (high c) (high d)
    ≡ nat_cmp ((c - 0x1_0000) / 0x400) ((d - 0x1_0000) / 0x400)
high_cmp c d = same_cmp (high c) (high d) ((c - 0x1_0000) / 0x400) ((d - 0x1_0000) / 0x400)
    (λ h. omega (arith, h)) (λ h. omega (arith, h)) (λ h. omega (arith, h))

module _ (c d : ℕ) (s : IsScalar c) (t : IsScalar d) (ne : c ≡ d → ⊥) (a b : List ℕ) where
  within : c < 0x11_0000
  within = small_scalar c s

  within' : d < 0x11_0000
  within' = small_scalar d t

  -- from the end
  pub last_differ : end_last_cmp (reverse (encode_utf16 c) ++ a) (reverse (encode_utf16 d) ++ b)
      ≡ nat_cmp (last_rank Compact c) (last_rank Compact d)
  last_differ = elim (cases_lt c 0x1_0000) [
    | inl h ↦
        ap (λ l. end_last_cmp (reverse l ++ a) (reverse (encode_utf16 d) ++ b)) (low_char c h)
        ∙ elim (cases_lt d 0x1_0000) [
          | inl k ↦
              ap (λ l. end_last_cmp (c ∷ a) (reverse l ++ b)) (low_char d k)
              ∙ by_one c d 0 0 (last_rank Compact c) (last_rank Compact d) (omega arith)
              (omega arith) (omega (arith, low_last c h)) (omega (arith, low_last d k))
              (end_last_cmp a b) ne
          | inr k ↦
              ap (λ l. end_last_cmp (c ∷ a) (reverse l ++ b)) (high_char d k)
              ∙ by_one c (low d) 0 ((d - 0x1_0000) / 0x400) (last_rank Compact c)
              (last_rank Compact d) (omega arith) (omega (arith, within'))
              (omega (arith, low_last c h)) (far_last d k) (end_last_cmp a (high d ∷ b))
              (λ e. no_surrogate c s (omega (arith, e)) (omega (arith, e)))
        ]
    | inr h ↦
        ap (λ l. end_last_cmp (reverse l ++ a) (reverse (encode_utf16 d) ++ b)) (high_char c h)
        ∙ elim (cases_lt d 0x1_0000) [
          | inl k ↦
              ap (λ l. end_last_cmp (low c ∷ high c ∷ a) (reverse l ++ b)) (low_char d k)
              ∙ by_one (low c) d ((c - 0x1_0000) / 0x400) 0 (last_rank Compact c)
              (last_rank Compact d) (omega (arith, within)) (omega arith) (far_last c h)
              (omega (arith, low_last d k)) (end_last_cmp (high c ∷ a) b)
              (λ e. no_surrogate d t (omega (arith, e)) (omega (arith, e)))
          | inr k ↦
              ap (λ l. end_last_cmp (low c ∷ high c ∷ a) (reverse l ++ b)) (high_char d k)
              ∙ ap (λ o. ordering_then (nat_cmp (low c) (low d))
              (ordering_then o (end_last_cmp a b))) (high_cmp c d)
              ∙ by_two (low c) (low d) ((c - 0x1_0000) / 0x400) ((d - 0x1_0000) / 0x400)
              (last_rank Compact c) (last_rank Compact d) (omega (arith, within))
              (omega (arith, within')) (far_last c h) (far_last d k) (end_last_cmp a b)
              (λ e f. ne (omega (arith, e, f, h, k)))
        ]
  ]

  -- from the start
  pub first_differ : slice_cmp nat_cmp (encode_utf16 c ++ a) (encode_utf16 d ++ b)
      ≡ nat_cmp (first_rank c) (first_rank d)
  first_differ = elim (cases_lt c 0x1_0000) [
    | inl h ↦
        ap (λ l. slice_cmp nat_cmp (l ++ a) (encode_utf16 d ++ b)) (low_char c h)
        ∙ elim (cases_lt d 0x1_0000) [
          | inl k ↦
              ap (λ l. slice_cmp nat_cmp (c ∷ a) (l ++ b)) (low_char d k)
              ∙ by_one c d 0 0 (first_rank c) (first_rank d) (omega arith) (omega arith)
              (omega (arith, low_first c h)) (omega (arith, low_first d k))
              (slice_cmp nat_cmp a b) ne
          | inr k ↦
              ap (λ l. slice_cmp nat_cmp (c ∷ a) (l ++ b)) (high_char d k)
              ∙ by_one c (high d) 0 ((d - 0x1_0000) % 0x400) (first_rank c) (first_rank d)
              (omega arith) (omega arith) (omega (arith, low_first c h)) (far_first d k)
              (slice_cmp nat_cmp a (low d ∷ b))
              (λ e. no_surrogate c s (omega (arith, e)) (omega (arith, e, within')))
        ]
    | inr h ↦
        ap (λ l. slice_cmp nat_cmp (l ++ a) (encode_utf16 d ++ b)) (high_char c h)
        ∙ elim (cases_lt d 0x1_0000) [
          | inl k ↦
              ap (λ l. slice_cmp nat_cmp (high c ∷ low c ∷ a) (l ++ b)) (low_char d k)
              ∙ by_one (high c) d ((c - 0x1_0000) % 0x400) 0 (first_rank c) (first_rank d)
              (omega arith) (omega arith) (far_first c h) (omega (arith, low_first d k))
              (slice_cmp nat_cmp (low c ∷ a) b)
              (λ e. no_surrogate d t (omega (arith, e)) (omega (arith, e, within)))
          | inr k ↦
              ap (λ l. slice_cmp nat_cmp (high c ∷ low c ∷ a) (l ++ b)) (high_char d k)
              ∙ ap (λ o. ordering_then (nat_cmp (high c) (high d))
              (ordering_then o (slice_cmp nat_cmp a b))) (low_cmp c d)
              ∙ by_two (high c) (high d) ((c - 0x1_0000) % 0x400) ((d - 0x1_0000) % 0x400)
              (first_rank c) (first_rank d) (omega arith) (omega arith) (far_first c h)
              (far_first d k) (slice_cmp nat_cmp a b)
              (λ e f. ne (omega (arith, e, f, h, k)))
        ]
  ]

-- the same character decides nothing
pub first_same : (us a b : List ℕ) → slice_cmp nat_cmp (us ++ a) (us ++ b) ≡ slice_cmp nat_cmp a b
first_same [] a b = refl
first_same (u ∷ us) a b = ordering_then_equal (nat_cmp u u) (slice_cmp nat_cmp (us ++ a) (us ++ b))
    (tied_itself nat_cmp_total u) ∙ first_same us a b

-- a character has a unit
pub units_before_end : (c : ℕ) (a : List ℕ)
    → end_last_cmp (reverse (encode_utf16 c) ++ a) [] ≡ Less
units_before_end c a = elim (cases_lt c 0x1_0000) [
  | inl h ↦ ap (λ l. end_last_cmp (reverse l ++ a) []) (low_char c h)
  | inr h ↦ ap (λ l. end_last_cmp (reverse l ++ a) []) (high_char c h)
]

pub end_behind_units : (c : ℕ) (a : List ℕ)
    → end_last_cmp [] (reverse (encode_utf16 c) ++ a) ≡ Greater
end_behind_units c a = elim (cases_lt c 0x1_0000) [
  | inl h ↦ ap (λ l. end_last_cmp [] (reverse l ++ a)) (low_char c h)
  | inr h ↦ ap (λ l. end_last_cmp [] (reverse l ++ a)) (high_char c h)
]

pub units_behind_end : (c : ℕ) (a : List ℕ) → slice_cmp nat_cmp (encode_utf16 c ++ a) [] ≡ Greater
units_behind_end c a = elim (cases_lt c 0x1_0000) [
  | inl h ↦ ap (λ l. slice_cmp nat_cmp (l ++ a) []) (low_char c h)
  | inr h ↦ ap (λ l. slice_cmp nat_cmp (l ++ a) []) (high_char c h)
]

pub end_before_units : (c : ℕ) (a : List ℕ) → slice_cmp nat_cmp [] (encode_utf16 c ++ a) ≡ Less
end_before_units c a = elim (cases_lt c 0x1_0000) [
  | inl h ↦ ap (λ l. slice_cmp nat_cmp [] (l ++ a)) (low_char c h)
  | inr h ↦ ap (λ l. slice_cmp nat_cmp [] (l ++ a)) (high_char c h)
]
