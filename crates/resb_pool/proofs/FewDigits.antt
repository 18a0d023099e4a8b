-- A text of few digits, none of which is 0, has no marker.
use Rattle.std.proofs.Common.{◌≡◌, ℕ, ◌+◌, ◌*◌, ◌<◌, ◌≤◌, List, [], ◌∷◌, ◌++◌, false, not}
use Rattle.std.proofs.Common.{length, length-append, refl, sym, ◌∙◌, ap, subst, arith, inl, inr}
use Rattle.std.proofs.Common.{reverse, suc, get_or, append-nil, ◌-◌}
use Rattle.std.specs.List.{All, flat_map}
use Rattle.std.specs.Str.{IsUtf8, chars}
use Rattle.std.specs.Char.Escape.{encode_utf16}
use Rattle.std.proofs.Math.Utf8.{encode, encodes}
use Rattle.std.proofs.lemmas.Bool.{cases_lt, le-leb, or_from, and_from, ne_eqb}
use Rattle.std.proofs.lemmas.Bool.Decides.{nat_tests}
use Rattle.std.proofs.lemmas.List.{length-reverse, get_or-append_right}
use Rattle.std.proofs.lemmas.List.Elements.{All-nil, All-cons, All-tail}
use Rattle.std.proofs.lemmas.List.Sorted.{All-permutation, IsPermutation-reverse, IsPermutation-sym}
use Rattle.std.proofs.lemmas.Str.{encodes-chars, chars-nil, inside_one}
use Rattle.resb_format.specs.Units.{units}
use Rattle.resb_pool.specs.Inner.Cuts.{chars_backwards}
use Rattle.resb_pool.specs.Inner.Suffixes.{char_digits, digits_backwards, IsWholeInRow}
use Rattle.resb_pool.proofs.Digits.{ascii_digit}
use Rattle.resb_pool.proofs.Zeros.{has_zero, has_zero-append}

unit_most : (c : ℕ) → length (encode_utf16 c) ≤ 2
unit_most c = grind (arith, nat_tests)

digit_least : (c : ℕ) → 1 ≤ length (char_digits c)
digit_least c = grind (arith, nat_tests)

units_few : (cs : List ℕ) → length (flat_map encode_utf16 cs) ≤ 2 * length cs
units_few [] = omega arith
units_few (c ∷ cs) = omega (
  arith,
  units_few cs,
  unit_most c,
  length-append (encode_utf16 c) (flat_map encode_utf16 cs),
)

chars_few : (cs : List ℕ) → length cs ≤ length (flat_map char_digits cs)
chars_few [] = omega arith
chars_few (c ∷ cs) = omega (
  arith,
  chars_few cs,
  digit_least c,
  length-append (char_digits c) (flat_map char_digits cs),
)

no_zero : (xs : List ℕ) → ((k : ℕ) → k < length xs → get_or xs k 0 ≡ 0 → ⊥) → has_zero xs ≡ false
no_zero [] h = refl
no_zero (x ∷ xs) h = or_from _ _ (ne_eqb x 0 (h 0 (omega arith)))
    (no_zero xs (λ k l. h (suc k) (omega (arith, l))))

-- no other character has a byte 0
byte_zero : (c : ℕ) → 0 < c → has_zero (encode c) ≡ false
byte_zero c p = no_zero (encode c) (λ k l z.
    let e = inside_one c [] (encode c) k (sym (append-nil (encode c))) l (omega (arith, z)) in
    omega (arith, e, z, p))

bytes_positive : (cs : List ℕ) → All (λ c. 0 < c) cs → has_zero (encodes cs) ≡ false
bytes_positive [] h = refl
bytes_positive (c ∷ cs) h = has_zero-append (encode c) (encodes cs)
    ∙ or_from _ _ (byte_zero c (h 0 c (omega arith)))
    (bytes_positive cs (All-tail (λ c. 0 < c) c cs h))

-- no digit 0, no character 0
chars_positive : (cs : List ℕ)
    → ((k : ℕ) → k < length (flat_map char_digits cs) → 0 < get_or (flat_map char_digits cs) k 255)
    → All (λ c. 0 < c) cs
chars_positive [] h = All-nil (λ c. 0 < c)
chars_positive (c ∷ cs) h =
    let ds = flat_map char_digits cs in
    let n = length (char_digits c) in
    let first : 0 < c = elim (cases_lt c 0x80) [
      | inl l ↦ subst (λ z. 0 < get_or (z ++ ds) 0 255) (ascii_digit c l)
          (h 0 (omega (arith, length-append (char_digits c) ds, digit_least c)))
      | inr l ↦ omega (arith, l)
    ] in
    All-cons (λ c. 0 < c) c cs first (chars_positive cs
    (λ k l.
    let m : k + n - n ≡ k = omega arith in
    subst (λ z. 0 < z)
    (get_or-append_right (char_digits c) ds n (k + n) 255 refl (omega arith)
    ∙ ap (λ z. get_or ds z 255) m)
    (h (k + n) (omega (arith, l, length-append (char_digits c) ds)))))

nonempty : (s : List ℕ) → 0 < length (digits_backwards s) → 0 < length s
nonempty [] l =
    let none : length (digits_backwards []) ≡ 0 =
    ap (λ cs. length (flat_map char_digits (reverse cs))) chars-nil in
    absurd (omega (arith, l, none))
nonempty (b ∷ bs) l = omega arith

-- by the number of its digits
pub few_digits : (s : List ℕ) → IsUtf8 s → 0 < length (digits_backwards s)
    → length (digits_backwards s) < 16
    → ((k : ℕ) → k < 16 → 0 < get_or (digits_backwards s) k 255) → IsWholeInRow s
few_digits s u some few positive =
    let backwards = chars_positive (chars_backwards s)
    (λ k l. positive k (omega (arith, l, few))) in
    let all : All (λ c. 0 < c) (chars s) =
    All-permutation (λ c. 0 < c) (chars_backwards s) (chars s)
    (IsPermutation-sym (chars s) (chars_backwards s) (IsPermutation-reverse (chars s)))
    backwards in
    let none : has_zero s ≡ false = ap has_zero (sym (encodes-chars s u)) ∙ bytes_positive (chars s)
    all in
    let most : length (units s) ≤ 40 = omega (
      arith,
      units_few (chars s),
      chars_few (chars_backwards s),
      length-reverse (chars s),
      few,
    ) in
    record {
      few = few;
      nonempty = nonempty s some;
      unmarked = and_from _ _ (le-leb (length (units s)) 40 most) (ap not none);
    }
