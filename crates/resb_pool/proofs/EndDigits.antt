-- A text ends with another where its first digits begin with those of this one, if these are few.
use Rattle.std.proofs.Common.{◌≡◌, ℕ, zero, suc, ◌+◌, ◌*◌, ◌/◌, ◌%◌, ◌≤◌, List, []}
use Rattle.std.proofs.Common.{◌∷◌, ◌++◌, length, inl, inr, refl, sym, ◌∙◌, ap, arith}
use Rattle.std.specs.List.{flat_map}
use Rattle.std.specs.Str.{IsUtf8}
use Rattle.std.proofs.lemmas.Bool.{cases_lt}
use Rattle.std.proofs.lemmas.Grind.{flat_map-append}
use Rattle.resb_pool.specs.Records.{EndsWith}
use Rattle.resb_pool.specs.Inner.Cuts.{chars_backwards}
use Rattle.resb_pool.specs.Inner.Extends.{Extends}
use Rattle.resb_pool.specs.Inner.Suffixes.{char_digits, digits_backwards, key_of_digits}
use Rattle.resb_pool.proofs.Cut.{ends_extends, extends_ends}
use Rattle.resb_pool.proofs.Digits.{IsSmall, small_key, ascii_digit, other_digits}
use Rattle.resb_pool.proofs.EndKeys.{head_small, tail_small, less_kept}

-- a number that isn't the end of another's begins with its digits
keys_extend : (n a : ℕ) (ds es : List ℕ) → IsSmall ds → IsSmall es → length ds ≡ n
    → key_of_digits a n ds ≡ key_of_digits a n es → Extends es ds
keys_extend zero a [] es s t e f = record { rest = es; is = refl }
keys_extend zero a (d ∷ ds) es s t e f = absurd (omega (arith, e))
keys_extend (suc n) a [] es s t e f = absurd (omega (arith, e))
keys_extend (suc n) a (d ∷ ds) [] s t e f =
    absurd (omega (
      arith,
      f,
      less_kept n (a * 256 + d) (a * 256 + 255) ds [] (tail_small d ds s) t
          (omega (arith, head_small d ds s)),
    ))
keys_extend (suc n) a (d ∷ ds) (x ∷ es) s t e f =
    let u = tail_small d ds s in
    let v = tail_small x es t in
    elim (cases_lt d x) [
      | inl l ↦ absurd (omega (
        arith,
        f,
        less_kept n (a * 256 + d) (a * 256 + x) ds es u v (omega (arith, l)),
      ))
      | inr l ↦ elim (cases_lt x d) [
        | inl m ↦ absurd (omega (
          arith,
          f,
          less_kept n (a * 256 + x) (a * 256 + d) es ds v u (omega (arith, m)),
        ))
        | inr m ↦
            let q : x ≡ d = omega (arith, l, m) in
            let k = keys_extend n (a * 256 + d) ds es u v (omega (arith, e))
            (f ∙ ap (λ z. key_of_digits (a * 256 + z) n es) q) in
            record { rest = k.rest; is = ap (λ z. z ∷ es) q ∙ ap (λ l. d ∷ l) k.is }
      ]
    ]

-- of as many digits as there are, what follows them is none
begun : (n a : ℕ) (ds rest : List ℕ) → n ≤ length ds
    → key_of_digits a n (ds ++ rest) ≡ key_of_digits a n ds
begun zero a ds rest l = refl
begun (suc n) a [] rest l = absurd (omega (arith, l))
begun (suc n) a (d ∷ ds) rest l = begun n (a * 256 + d) ds rest (omega (arith, l))

digits_end : (t s : List ℕ) → IsUtf8 t → IsUtf8 s → EndsWith t s
    → Extends (digits_backwards t) (digits_backwards s)
digits_end t s u v h =
    let e = ends_extends t s u v h in
    record {
      rest = flat_map char_digits e.rest;
      is = ap (flat_map char_digits) e.is
          ∙ flat_map-append char_digits (chars_backwards s) e.rest;
    }

-- characters whose digits go on from those of others go on from these
chars_extend : (xs ys rest : List ℕ) → flat_map char_digits xs ≡ flat_map char_digits ys ++ rest
    → Extends xs ys
chars_extend xs [] rest e = record { rest = xs; is = refl }
chars_extend [] (y ∷ ys) rest e = elim (cases_lt y 0x80) [
  | inl k ↦
      let f = e ∙ ap (λ l. (l ++ flat_map char_digits ys) ++ rest) (ascii_digit y k) in cc
  | inr k ↦
      let f = e ∙ ap (λ l. (l ++ flat_map char_digits ys) ++ rest)
      (other_digits y (omega (arith, k))) in cc
]
chars_extend (x ∷ xs) (y ∷ ys) rest e =
    let more : x ≡ y → flat_map char_digits xs ≡ flat_map char_digits ys ++ rest
    → Extends (x ∷ xs) (y ∷ ys) = λ q f. (let k = chars_extend xs ys rest f in
    record { rest = k.rest; is = ap (λ z. z ∷ xs) q ∙ ap (λ l. y ∷ l) k.is }) in
    elim (cases_lt x 0x80) [
      | inl h ↦
          let f = sym (ap (λ l. l ++ flat_map char_digits xs) (ascii_digit x h)) ∙ e in
          elim (cases_lt y 0x80) [
            | inl k ↦
                let g = f ∙ ap (λ l. (l ++ flat_map char_digits ys) ++ rest) (ascii_digit y k) in
                let q : x ≡ y = cc in
                let tail : flat_map char_digits xs ≡ flat_map char_digits ys ++ rest = cc in
                more q tail
            | inr k ↦
                let g = f ∙ ap (λ l. (l ++ flat_map char_digits ys) ++ rest)
                (other_digits y (omega (arith, k))) in
                let q : x ≡ 0x80 + y / 0x4000 = cc in
                absurd (omega (arith, q, h))
          ]
      | inr h ↦
          let f = sym (ap (λ l. l ++ flat_map char_digits xs)
          (other_digits x (omega (arith, h)))) ∙ e in
          elim (cases_lt y 0x80) [
            | inl k ↦
                let g = f ∙ ap (λ l. (l ++ flat_map char_digits ys) ++ rest) (ascii_digit y k) in
                let q : 0x80 + x / 0x4000 ≡ y = cc in
                absurd (omega (arith, q, k))
            | inr k ↦
                let g = f ∙ ap (λ l. (l ++ flat_map char_digits ys) ++ rest)
                (other_digits y (omega (arith, k))) in
                let p : 0x80 + x / 0x4000 ≡ 0x80 + y / 0x4000 = cc in
                let q : x / 0x80 % 0x80 ≡ y / 0x80 % 0x80 = cc in
                let r : x % 0x80 ≡ y % 0x80 = cc in
                let same : x ≡ y = omega (arith, p, q, r) in
                let tail : flat_map char_digits xs ≡ flat_map char_digits ys ++ rest = cc in
                more same tail
          ]
    ]

ends_digits : (t s : List ℕ) → IsUtf8 t → IsUtf8 s
    → Extends (digits_backwards t) (digits_backwards s) → EndsWith t s
ends_digits t s u v h =
    extends_ends t s u v (chars_extend (chars_backwards t) (chars_backwards s) h.rest h.is)

-- a text that ends with another has the same first digits, as many as the other has
pub same_digits : (s t : List ℕ) (n : ℕ) → IsUtf8 s → IsUtf8 t → n ≤ length (digits_backwards s)
    → EndsWith t s → key_of_digits 0 n (digits_backwards t) ≡ key_of_digits 0 n (digits_backwards s)
same_digits s t n u v l ends =
    let e = digits_end t s v u ends in
    ap (key_of_digits 0 n) e.is ∙ begun n 0 (digits_backwards s) e.rest l

-- and a text whose first digits are all digits of another ends with it
pub digits_tell : (s t : List ℕ) (n : ℕ) → IsUtf8 s → IsUtf8 t → n ≡ length (digits_backwards s)
    → key_of_digits 0 n (digits_backwards t) ≡ key_of_digits 0 n (digits_backwards s) → EndsWith t s
digits_tell s t n u v l e =
    let ds = digits_backwards s in
    let es = digits_backwards t in
    ends_digits t s v u (keys_extend n 0 ds es (small_key s u) (small_key t v) (sym l) (sym e))
