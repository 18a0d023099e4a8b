-- The digits of a key, as the code takes some of them and fills the others.
use Rattle.std.proofs.Common.{◌≡◌, ℕ, zero, suc, ◌+◌, ◌-◌, ◌*◌, ◌/◌, ◌%◌, ◌^◌, ◌<◌, ◌≤◌, List, []}
use Rattle.std.proofs.Common.{◌∷◌, get_or, nat_eq, nat_lt, if◌then◌else◌, false, inl, inr, refl}
use Rattle.std.proofs.Common.{sym, ◌∙◌, ap, subst, arith}
use Rattle.std.specs.List.{list_any}
use Rattle.std.specs.Int.{byte_at, bytes_high_first}
use Rattle.std.proofs.lemmas.Bool.{cases_lt, lt-ltb, le-ltb, eq-eqb, or_parts}
use Rattle.std.proofs.Math.Nat.{add-mul, mul_assoc}
use Rattle.std.proofs.lemmas.Nat.{shr-shr, pow-add, pow_pos, shl_whole, mul-add-lt}
use Rattle.std.proofs.lemmas.Nat.Bits.{ones_shr}
use Rattle.resb_pool.specs.Inner.Suffixes.{key_of_digits, digits_bound}
use Rattle.resb_pool.proofs.Digits.{IsSmall}
use Rattle.resb_pool.proofs.EndKeys.{head_small, tail_small}
use Rattle.resb_pool.proofs.Numbers.{more_than_zero, old_or_new}

-- without its last digit a number has one digit less
shorter : (n a : ℕ) (ds : List ℕ) → IsSmall ds
    → key_of_digits a (suc n) ds / 256 ≡ key_of_digits a n ds
shorter zero a [] s = omega arith
shorter zero a (d ∷ ds) s = omega (arith, head_small d ds s)
shorter (suc n) a [] s = shorter n (a * 256 + 255) [] s
shorter (suc n) a (d ∷ ds) s = shorter n (a * 256 + d) ds (tail_small d ds s)

-- the last digit of a number
pub last_digit : (n a : ℕ) (ds : List ℕ) → IsSmall ds
    → key_of_digits a (suc n) ds % 256 ≡ get_or ds n 255
last_digit zero a [] s = omega arith
last_digit zero a (d ∷ ds) s = omega (arith, head_small d ds s)
last_digit (suc n) a [] s = last_digit n (a * 256 + 255) [] s
last_digit (suc n) a (d ∷ ds) s = last_digit n (a * 256 + d) ds (tail_small d ds s)

next_power : (n : ℕ) → 2 ^ (8 * suc n) ≡ 256 * 2 ^ (8 * n)
next_power n =
    let e : 8 * suc n ≡ 8 + 8 * n = omega arith in
    ap (λ z. 2 ^ z) e ∙ pow-add 2 8 (8 * n)

-- a power of 256 as one of 2
bytes_power : (n : ℕ) → 256 ^ n ≡ 2 ^ (8 * n)
bytes_power zero = refl
bytes_power (suc n) =
    let e : suc n ≡ 1 + n = omega arith in
    ap (λ z. 256 ^ z) e ∙ pow-add 256 1 n ∙ ap (λ z. 256 * z) (bytes_power n) ∙ sym (next_power n)

-- without so many of its last digits a number has so many less
pub dropped : (count n a : ℕ) (ds : List ℕ) → IsSmall ds
    → key_of_digits a (n + count) ds / 2 ^ (8 * count) ≡ key_of_digits a n ds
dropped zero n a ds s =
    let m : n + 0 ≡ n = omega arith in
    let e : key_of_digits a (n + 0) ds ≡ key_of_digits a n ds = ap (λ z. key_of_digits a z ds) m in
    omega (arith, e)
dropped (suc count) n a ds s =
    let m : n + suc count ≡ suc (n + count) = omega arith in
    let k : 8 * suc count ≡ 8 + 8 * count = omega arith in
    let all : ℕ = key_of_digits a (suc (n + count)) ds in
    ap (λ z. key_of_digits a z ds / 2 ^ (8 * suc count)) m ∙ ap (λ z. all / 2 ^ z) k
    ∙ sym (shr-shr all 8 (8 * count)) ∙ ap (λ z. z / 2 ^ (8 * count)) (shorter (n + count) a ds s)
    ∙ dropped count n a ds s

-- the same of the first 16 digits, as the code computes it
pub first_digits : (count key : ℕ) (ds : List ℕ) → IsSmall ds → count ≤ 16
    → key ≡ key_of_digits 0 16 ds
    → (if nat_lt (8 * count) 128 then key / 2 ^ (8 * count) else 0)
    ≡ key_of_digits 0 (16 - count) ds
first_digits count key ds s m e = elim (cases_lt count 16) [
  | inl l ↦
      let n : 16 ≡ 16 - count + count = omega (arith, l) in
      ap (λ b. if b then key / 2 ^ (8 * count) else 0)
      (lt-ltb (8 * count) 128 (omega (arith, l)))
      ∙ ap (λ z. z / 2 ^ (8 * count)) (e ∙ ap (λ z. key_of_digits 0 z ds) n)
      ∙ dropped count (16 - count) 0 ds s
  | inr l ↦
      let n : 16 - count ≡ 0 = omega (arith, l) in
      ap (λ b. if b then key / 2 ^ (8 * count) else 0)
      (le-ltb (8 * count) 128 (omega (arith, l))) ∙ ap (λ z. key_of_digits 0 z ds) (sym n)
]

-- a digit of 16 as the byte of their number
byte_is : (i key : ℕ) (ds : List ℕ) → IsSmall ds → i < 16 → key ≡ key_of_digits 0 16 ds
    → byte_at i key ≡ get_or ds (15 - i) 255
byte_is i key ds s l e =
    let n : 16 ≡ 16 - i + i = omega (arith, l) in
    let m : 16 - i ≡ suc (15 - i) = omega (arith, l) in
    as_shift i key ∙ ap (λ z. z / 2 ^ (8 * i) % 256) (e ∙ ap (λ z. key_of_digits 0 z ds) n)
    ∙ ap (λ z. z % 256) (dropped i (16 - i) 0 ds s ∙ ap (λ z. key_of_digits 0 z ds) m)
    ∙ last_digit (15 - i) 0 ds s
  where
    as_shift : (i key : ℕ) → byte_at i key ≡ key / 2 ^ (8 * i) % 256
    as_shift zero key = omega arith
    as_shift (suc i) key = ap (λ z. key / z % 256) (bytes_power (suc i))

no_zero_byte : (n key : ℕ) → list_any (λ b. nat_eq b 0) (bytes_high_first n key) ≡ false
    → (i : ℕ) → i < n → 0 < byte_at i key
no_zero_byte zero key e i l = absurd (omega (arith, l))
no_zero_byte (suc n) key e i l =
    let o = or_parts (nat_eq (byte_at n key) 0) _ e in
    elim (old_or_new n i (omega (arith, l))) [
      | inl h ↦ no_zero_byte n key o.1 i h
      | inr h ↦ subst (λ z. 0 < byte_at z key) (sym h)
          (more_than_zero (byte_at n key) (λ z. cc (eq-eqb (byte_at n key) 0 z, o.0)))
    ]

-- where no byte of the number is 0, no digit is
pub no_zero_digit : (key : ℕ) (ds : List ℕ) → IsSmall ds → key ≡ key_of_digits 0 16 ds
    → list_any (λ b. nat_eq b 0) (bytes_high_first 16 key) ≡ false
    → (k : ℕ) → k < 16 → 0 < get_or ds k 255
no_zero_digit key ds s e none k l =
    let place : 15 - (15 - k) ≡ k = omega (arith, l) in
    subst (λ z. 0 < z) (byte_is (15 - k) key ds s (omega (arith, l)) e
    ∙ ap (λ z. get_or ds z 255) place)
    (no_zero_byte 16 key none (15 - k) (omega (arith, l)))

-- what is left of 16 digits is filled with the end's digit
end_digits : (left number : ℕ)
    → key_of_digits number left [] ≡ number * 2 ^ (8 * left) + (2 ^ (8 * left) - 1)
end_digits zero number = omega arith
end_digits (suc left) number =
    end_digits left (number * 256 + 255)
    ∙ wider number (2 ^ (8 * left)) (2 ^ (8 * suc left)) (next_power left) (pow_pos (8 * left))
  where
    wider : (n small large : ℕ) → large ≡ 256 * small → 0 < small
        → (n * 256 + 255) * small + (small - 1) ≡ n * large + (large - 1)
    wider n small large e p =
        let whole : n * large ≡ n * 256 * small = ap (λ z. n * z) e ∙ sym (mul_assoc n 256 small) in
        omega (arith, whole, add-mul (n * 256) 255 small, e, p)

bound_is : (n : ℕ) → digits_bound n ≡ 2 ^ (8 * n)
bound_is zero = refl
bound_is (suc n) = omega (arith, bound_is n, next_power n)

-- as the code computes it
pub filled : (left number : ℕ) → left ≤ 16 → number < digits_bound (16 - left)
    → ((if nat_lt (8 * left) 128 then number * 2 ^ (8 * left) % 2 ^ 128 else 0)
    + (if nat_lt (128 - 8 * left) 128 then (2 ^ 128 - 1) / 2 ^ (128 - 8 * left) else 0)
    ≡ key_of_digits number left [])
    × (key_of_digits number left [] < 2 ^ 128)
filled left number l small =
    let k = 8 * left in
    let j : 8 * (16 - left) ≡ 128 - k = omega (arith, l) in
    let below : number < 2 ^ (128 - k) =
    subst (λ z. number < z) (bound_is (16 - left) ∙ ap (λ z. 2 ^ z) j) small in
    let high : (if nat_lt k 128 then number * 2 ^ k % 2 ^ 128 else 0) ≡ number * 2 ^ k =
    elim (cases_lt left 16) [
      | inl h ↦ ap (λ b. if b then number * 2 ^ k % 2 ^ 128 else 0)
          (lt-ltb k 128 (omega (arith, h)))
          ∙ shl_whole number (128 - k) k 128 below (omega (arith, l))
      | inr h ↦
          let m : 128 - k ≡ 0 = omega (arith, h) in
          let one : number < 1 = subst (λ z. number < 2 ^ z) m below in
          let none : number ≡ 0 = omega (arith, one) in
          let nothing : 0 ≡ number * 2 ^ k = omega (arith, ap (λ z. z * 2 ^ k) none) in
          ap (λ b. if b then number * 2 ^ k % 2 ^ 128 else 0) (le-ltb k 128 (omega (arith, h)))
          ∙ nothing
    ] in
    let low : (if nat_lt (128 - k) 128 then (2 ^ 128 - 1) / 2 ^ (128 - k) else 0) ≡ 2 ^ k - 1 =
    elim (cases_lt 0 left) [
      | inl h ↦
          let m : 128 - (128 - k) ≡ k = omega (arith, l) in
          ap (λ b. if b then (2 ^ 128 - 1) / 2 ^ (128 - k) else 0)
          (lt-ltb (128 - k) 128 (omega (arith, h, l)))
          ∙ ones_shr 128 (128 - k) (omega arith) ∙ ap (λ z. 2 ^ z - 1) m
      | inr h ↦
          let m : k ≡ 0 = omega (arith, h) in
          ap (λ b. if b then (2 ^ 128 - 1) / 2 ^ (128 - k) else 0)
          (le-ltb (128 - k) 128 (omega (arith, h))) ∙ sym (ap (λ z. 2 ^ z - 1) m)
    ] in
    let m : k + (128 - k) ≡ 128 = omega (arith, l) in
    let fits : number * 2 ^ k + (2 ^ k - 1) < 2 ^ 128 =
    subst (λ z. number * 2 ^ k + (2 ^ k - 1) < z)
    (sym (pow-add 2 k (128 - k)) ∙ ap (λ z. 2 ^ z) m)
    (mul-add-lt number (2 ^ k) (2 ^ k - 1) (2 ^ (128 - k)) below (omega (arith, pow_pos k))) in (
      rw (high, low) (sym (end_digits left number)),
      subst (λ z. z < 2 ^ 128) (sym (end_digits left number)) fits,
    )
