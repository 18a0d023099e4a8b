-- Laws of hex digits and escapes, as the reader's functions use them.
use Rattle.std.proofs.Common.{◌≡◌, ◌≢◌, ℕ, ◌+◌, ◌-◌, ◌*◌, ◌%◌, ◌<◌, Bool, true, false, List}
use Rattle.std.proofs.Common.{[], ◌∷◌}
use Rattle.std.proofs.Common.{arith, subst, sym, ap, ◌∙◌, encode_utf8, lit≤, refl}
use Rattle.std.proofs.lemmas.Str.{encode_ascii}
use Rattle.std.specs.Prelude.{slice_index, ◌==◌, ◌||◌, ◌&&◌, length}
use Rattle.std.specs.Char.Utf16.{is_high_surrogate, is_low_surrogate, surrogate_pair_char}
use Rattle.std.proofs.lemmas.Bool.{false≢true, and_parts, and_from}
use Rattle.std.proofs.lemmas.Bool.Decides.{nat_tests}
use Rattle.std.specs.Char.{digit_value, IsScalar, is_digit}
use Rattle.resb_grammar.specs.Lexical.{digits_value}
use Rattle.resb_grammar.specs.Group.{is_hex}
use Rattle.resb_icu_grammar.specs.Bytes.{backslash}
use Rattle.resb_icu_grammar.specs.Escapes.{Escape, itself, letter, four_digits, pair, eight_digits}
use Rattle.resb_icu_grammar.specs.Escapes.{control, short_hex, octal, are_hex, is_lost, FourDigits}
use Rattle.resb_icu_grammar.specs.Escapes.{is_letter, letter_character, begins_longer}
use Rattle.resb_icu_grammar.specs.Escapes.{is_half, says_half}
use Rattle.resb_icu_grammar.proofs.Lexical.{no_octal, half_no_scalar, no_letter, no_longer}
use Rattle.resb_icu_grammar.proofs.FewDigitsLemmas.{few_first}

pub hex_some : (b : ℕ) → is_hex b ≡ true → 0 < b
hex_some b h = grind (arith, nat_tests, h)

module _ (text : List ℕ) (from : ℕ) where
  -- four hex digits, and the number that they say
  pub four_are : (a b c d v : ℕ) → is_hex (slice_index text from) ≡ true
      → a ≡ digit_value (slice_index text from) → is_hex (slice_index text (from + 1)) ≡ true
      → b ≡ digit_value (slice_index text (from + 1)) → is_hex (slice_index text (from + 2)) ≡ true
      → c ≡ digit_value (slice_index text (from + 2)) → is_hex (slice_index text (from + 3)) ≡ true
      → d ≡ digit_value (slice_index text (from + 3))
      → v ≡ ((a * 16 + b) * 16 + c) * 16 + d
      → (are_hex text from 4 ≡ true) × (v ≡ digits_value 16 text from 4)
  four_are a b c d v h e h1 e1 h2 e2 h3 e3 is =
      let z : from + 0 ≡ from = omega arith in
      let h0 : is_hex (slice_index text (from + 0)) ≡ true =
      subst (λ n. is_hex (slice_index text n) ≡ true) (sym z) h in
      let e0 : a ≡ digit_value (slice_index text (from + 0)) =
      subst (λ n. a ≡ digit_value (slice_index text n)) (sym z) e in
      (and_from _ _ (and_from _ _ (and_from _ _ h0 h1) h2) h3, omega (arith, is, e0, e1, e2, e3))

  -- each of four hex digits is one
  pub four_parts : are_hex text from 4 ≡ true → (is_hex (slice_index text from) ≡ true)
      × (is_hex (slice_index text (from + 1)) ≡ true)
      × (is_hex (slice_index text (from + 2)) ≡ true)
      × (is_hex (slice_index text (from + 3)) ≡ true)
  four_parts h =
      let p = and_parts _ _ h in
      let q = and_parts _ _ p.0 in
      let r = and_parts _ _ q.0 in
      let z : from + 0 ≡ from = omega arith in
      (subst (λ n. is_hex (slice_index text n) ≡ true) z r.0, r.1, q.1, p.1)

-- a hex digit of a place said otherwise
digit_moved : (text : List ℕ) (a b : ℕ) → a ≡ b → is_hex (slice_index text a) ≡ true
    → is_hex (slice_index text b) ≡ true
digit_moved text a b e h = subst (λ n. is_hex (slice_index text n) ≡ true) e h

value_moved : (text : List ℕ) (a b : ℕ) → a ≡ b
    → digit_value (slice_index text a) ≡ digit_value (slice_index text b)
value_moved text a b e = ap (λ n. digit_value (slice_index text n)) e

-- eight hex digits, and the number that they say
pub eight_are : (text : List ℕ) (from high low v : ℕ) → are_hex text from 4 ≡ true
    → high ≡ digits_value 16 text from 4 → are_hex text (from + 4) 4 ≡ true
    → low ≡ digits_value 16 text (from + 4) 4 → v ≡ high * 65536 + low
    → (are_hex text from 8 ≡ true) × (v ≡ digits_value 16 text from 8)
eight_are text from high low v h e l f is =
    let p = four_parts text (from + 4) l in
    let d4 = p.0 in
    let d5 = digit_moved text (from + 4 + 1) (from + 5) (omega arith) p.1 in
    let d6 = digit_moved text (from + 4 + 2) (from + 6) (omega arith) p.2 in
    let d7 = digit_moved text (from + 4 + 3) (from + 7) (omega arith) p.3 in
    let v4 = value_moved text (from + 4 + 0) (from + 4) (omega arith) in
    let v5 = value_moved text (from + 4 + 1) (from + 5) (omega arith) in
    let v6 = value_moved text (from + 4 + 2) (from + 6) (omega arith) in
    let v7 = value_moved text (from + 4 + 3) (from + 7) (omega arith) in (
      and_from _ _ (and_from _ _ (and_from _ _ (and_from _ _ h d4) d5) d6) d7,
      omega (arith, is, e, f, v4, v5, v6, v7),
    )

-- the first and the last four of eight hex digits
pub eight_parts : (text : List ℕ) (from : ℕ) → are_hex text from 8 ≡ true
    → (are_hex text from 4 ≡ true) × (are_hex text (from + 4) 4 ≡ true)
eight_parts text from h =
    let p7 = and_parts _ _ h in
    let p6 = and_parts _ _ p7.0 in
    let p5 = and_parts _ _ p6.0 in
    let p4 = and_parts _ _ p5.0 in
    let d4 = digit_moved text (from + 4) (from + 4 + 0) (omega arith) p4.1 in
    let d5 = digit_moved text (from + 5) (from + 4 + 1) (omega arith) p5.1 in
    let d6 = digit_moved text (from + 6) (from + 4 + 2) (omega arith) p6.1 in
    let d7 = digit_moved text (from + 7) (from + 4 + 3) (omega arith) p7.1 in
    (p4.0, and_from _ _ (and_from _ _ (and_from _ _ d4 d5) d6) d7)

pub not_first : (text : List ℕ) (from : ℕ) → (are_hex text from 4 ≡ true → ⊥)
    → are_hex text from 8 ≡ true → ⊥
not_first text from f h = f (eight_parts text from h).0

pub not_last : (text : List ℕ) (from : ℕ) → (are_hex text (from + 4) 4 ≡ true → ⊥)
    → are_hex text from 8 ≡ true → ⊥
not_last text from f h = f (eight_parts text from h).1

-- no escape of four digits stands where they say neither a character nor a pair
pub no_short : (text : List ℕ) (at : ℕ) → slice_index text at ≡ 117
    → ((c : ℕ) → FourDigits text at c → IsScalar c → c ≢ backslash → ⊥)
    → ((high low : ℕ) → FourDigits text at high → is_high_surrogate high ≡ true
    → slice_index text (at + 5) ≡ backslash → FourDigits text (at + 6) low
    → is_low_surrogate low ≡ true → ⊥)
    → (to : ℕ) (s : List ℕ) → Escape text at to s → ⊥
no_short text at e f g to s (itself i l o) =
    absurd (no_longer _ 117 o e refl)
no_short text at e f g to s (letter h) =
    absurd (no_letter _ 117 h e refl)
no_short text at e f g to s (four_digits c w y z) =
    f c w y z
no_short text at e f g to s (pair m k w p d x q) =
    g m k w p d x q
no_short text at e f g to s (eight_digits c h x i y z) =
    absurd (omega arith)
no_short text at e f g to s (control h l m) =
    absurd (omega arith)
no_short text at e f g to s (short_hex c _ h p o) =
    absurd (omega arith)
no_short text at e f g to s (octal c _ p o) =
    no_octal _ 117 (few_first p) e refl

pub no_long : (text : List ℕ) (at : ℕ) → slice_index text at ≡ 85
    → ((are_hex text (at + 1) 8 ≡ true) → IsScalar (digits_value 16 text (at + 1) 8)
    → is_lost 85 (digits_value 16 text (at + 1) 8) ≡ false → ⊥)
    → (to : ℕ) (s : List ℕ) → Escape text at to s → ⊥
no_long text at e f to s (itself g l o) =
    absurd (no_longer _ 85 o e refl)
no_long text at e f to s (letter h) =
    absurd (no_letter _ 85 h e refl)
no_long text at e f to s (four_digits c w y z) =
    absurd (omega (arith, e, w.letter))
no_long text at e f to s (pair m k w p d x q) =
    absurd (omega (arith, e, w.letter))
no_long text at e f to s (eight_digits c h x i y z) =
    f x (subst IsScalar i y) (subst (λ n. is_lost 85 n ≡ false) i z)
no_long text at e f to s (control h l m) =
    absurd (omega arith)
no_long text at e f to s (short_hex c _ h p o) =
    absurd (omega arith)
no_long text at e f to s (octal c _ p o) =
    no_octal _ 85 (few_first p) e refl

-- nor one of a control character where no character of ASCII stands
pub no_control : (text : List ℕ) (at : ℕ) → slice_index text at ≡ 99
    → (0 < slice_index text (at + 1) → slice_index text (at + 1) < 128 → ⊥)
    → (to : ℕ) (s : List ℕ) → Escape text at to s → ⊥
no_control text at e f to s (itself g l o) =
    absurd (no_longer _ 99 o e refl)
no_control text at e f to s (letter h) =
    absurd (no_letter _ 99 h e refl)
no_control text at e f to s (four_digits c w y z) =
    absurd (omega (arith, e, w.letter))
no_control text at e f to s (pair m k w p d x q) =
    absurd (omega (arith, e, w.letter))
no_control text at e f to s (eight_digits c h x i y z) =
    absurd (omega arith)
no_control text at e f to s (control h l m) =
    f l m
no_control text at e f to s (short_hex c _ h p o) =
    absurd (omega arith)
no_control text at e f to s (octal c _ p o) =
    no_octal _ 99 (few_first p) e refl

-- an escape of a letter
pub is_letter_there : (text : List ℕ) (at b c : ℕ) → b ≡ slice_index text at
    → is_letter b ≡ true → c ≡ letter_character b → c < 32
    → Escape text at (at + 1) (encode_utf8 c)
is_letter_there text at b c e h is low =
    subst (λ s. Escape text at (at + 1) s)
    (ap (λ n. n ∷ []) (sym (is ∙ ap letter_character e))
    ∙ sym (encode_ascii c (omega (arith, low))))
    (letter (ap is_letter (sym e) ∙ h))

-- one of a byte that begins no other
pub is_itself_there : (text : List ℕ) (at b : ℕ) → b ≡ slice_index text at → at < length text
    → is_letter b ≡ false → b ≢ 117 → b ≢ 85 → b ≢ 99 → (b == 120 || is_digit b 8) ≡ false
    → Escape text at (at + 1) (slice_index text at ∷ [])
is_itself_there text at b e l h u w c n =
    itself l (ap is_letter (sym e) ∙ h) (ap begins_longer (sym e) ∙ short)
  where
    short : begins_longer b ≡ false
    short = grind (arith, nat_tests, u, w, c, n)

-- four digits behind an `u`
pub four_there : (text : List ℕ) (at n : ℕ) → slice_index text at ≡ 117
    → are_hex text (at + 1) 4 ≡ true → n ≡ digits_value 16 text (at + 1) 4 → FourDigits text at n
four_there text at n h x e = record { letter = h; digits = x; means = e }

pub is_short : (text : List ℕ) (at n c : ℕ) → FourDigits text at n → c ≡ n
    → IsScalar n → n ≢ backslash → Escape text at (at + 5) (encode_utf8 c)
is_short text at n c w is y z =
    subst (λ k. Escape text at (at + 5) (encode_utf8 k)) (sym is) (four_digits n w y z)

pub is_pair : (text : List ℕ) (at high low c : ℕ) → FourDigits text at high
    → is_high_surrogate high ≡ true → slice_index text (at + 5) ≡ backslash
    → FourDigits text (at + 6) low → is_low_surrogate low ≡ true
    → c ≡ surrogate_pair_char high low → Escape text at (at + 11) (encode_utf8 c)
is_pair text at high low c w p d x q is =
    subst (λ k. Escape text at (at + 11) (encode_utf8 k)) (sym is) (pair high low w p d x q)

-- one number stands there
pub four_one : (text : List ℕ) (at m n : ℕ) → FourDigits text at m → FourDigits text at n → m ≡ n
four_one text at m n w x = w.means ∙ sym x.means

-- no pair stands where the last half doesn't
pub no_pair : (text : List ℕ) (at high : ℕ) → FourDigits text at high
    → is_high_surrogate high ≡ true
    → ((low : ℕ) → slice_index text (at + 5) ≡ backslash → FourDigits text (at + 6) low
    → is_low_surrogate low ≡ true → ⊥)
    → (to : ℕ) (s : List ℕ) → Escape text at to s → ⊥
no_pair text at high w p f =
    no_short text at w.letter
    (λ c v y z. half_no_scalar c high (four_one text at c high v w) y p)
    (λ m n v q d x r. f n d x r)

-- no character does where the number says none
pub no_character : (text : List ℕ) (at n : ℕ) → FourDigits text at n
    → is_high_surrogate n ≡ false → (IsScalar n → n ≢ backslash → ⊥)
    → (to : ℕ) (s : List ℕ) → Escape text at to s → ⊥
no_character text at n w p f =
    no_short text at w.letter
    (λ c v y z. f (subst IsScalar (four_one text at c n v w) y)
    (λ e. z (four_one text at c n v w ∙ e)))
    (λ m k v q d x r.
    false≢true (sym p ∙ ap is_high_surrogate (four_one text at n m w v) ∙ q))

-- where no four digits stand, nothing does
pub no_digits : (text : List ℕ) (at : ℕ) → slice_index text at ≡ 117
    → (are_hex text (at + 1) 4 ≡ true → ⊥)
    → (to : ℕ) (s : List ℕ) → Escape text at to s → ⊥
no_digits text at e f =
    no_short text at e (λ c w y z. f w.digits) (λ m n w p d x q. f w.digits)

pub is_long : (text : List ℕ) (at n c : ℕ) → slice_index text at ≡ 85
    → are_hex text (at + 1) 8 ≡ true → n ≡ digits_value 16 text (at + 1) 8 → c ≡ n
    → IsScalar n → is_lost 85 n ≡ false → Escape text at (at + 9) (encode_utf8 c)
is_long text at n c h x e is y z =
    subst (λ k. Escape text at (at + 9) (encode_utf8 k)) (sym is)
    (eight_digits n h x e y z)

pub is_control : (text : List ℕ) (at b c : ℕ) → slice_index text at ≡ 99
    → b ≡ slice_index text (at + 1) → c ≡ b % 32 → 0 < b → b < 128
    → Escape text at (at + 2) (encode_utf8 c)
is_control text at b c h e is low high =
    let same : c ≡ slice_index text (at + 1) % 32 = is ∙ ap (λ n. n % 32) e in
    subst (λ s. Escape text at (at + 2) s)
    (ap (λ n. n ∷ []) (sym same) ∙ sym (encode_ascii c (omega (arith, is))))
    (control h (omega (arith, e, low)) (omega (arith, e, high)))

-- the character behind `\c`
pub second_ascii : (text : List ℕ) (at b : ℕ) → b ≡ slice_index text (at + 1) → 0 < b → b < 128
    → (0 < slice_index text (at + 2 - 1)) × (slice_index text (at + 2 - 1) < 128)
second_ascii text at b e low high =
    let same : at + 1 ≡ at + 2 - 1 = omega arith in
    subst (λ i. (0 < slice_index text i) × (slice_index text i < 128)) same
    (omega (arith, e, low), omega (arith, e, high))

-- eight digits say no character that an escape may stand for
pub said_long : (text : List ℕ) (at n : ℕ) → slice_index text at ≡ 85
    → n ≡ digits_value 16 text (at + 1) 8 → (IsScalar n → is_lost 85 n ≡ false → ⊥)
    → (to : ℕ) (s : List ℕ) → Escape text at to s → ⊥
said_long text at n h e f =
    no_long text at h (λ x y z. f (subst IsScalar (sym e) y)
    (subst (λ k. is_lost 85 k ≡ false) (sym e) z))

-- a hex digit is ASCII
pub hex_ascii : (b : ℕ) → is_hex b ≡ true → (0 < b) × (b < 128)
hex_ascii b h = (hex_some b h, grind (arith, nat_tests, h))

ascii_moved : (text : List ℕ) (a b : ℕ) → a ≡ b → is_hex (slice_index text a) ≡ true
    → (0 < slice_index text b) × (slice_index text b < 128)
ascii_moved text a b e h = hex_ascii _ (digit_moved text a b e h)

-- the last of four hex digits
pub fourth_ascii : (text : List ℕ) (at : ℕ) → are_hex text (at + 1) 4 ≡ true
    → (0 < slice_index text (at + 5 - 1)) × (slice_index text (at + 5 - 1) < 128)
fourth_ascii text at h =
    ascii_moved text (at + 1 + 3) (at + 5 - 1) (omega arith) (four_parts text (at + 1) h).3

-- the last of eight
pub eighth_ascii : (text : List ℕ) (at : ℕ) → are_hex text (at + 1) 8 ≡ true
    → (0 < slice_index text (at + 9 - 1)) × (slice_index text (at + 9 - 1) < 128)
eighth_ascii text at h =
    ascii_moved text (at + 1 + 4 + 3) (at + 9 - 1) (omega arith)
    (four_parts text (at + 1 + 4) (eight_parts text (at + 1) h).1).3

-- the last of four hex digits of the last half of a pair
pub eleventh_ascii : (text : List ℕ) (at n : ℕ) → FourDigits text (at + 6) n
    → (0 < slice_index text (at + 11 - 1)) × (slice_index text (at + 11 - 1) < 128)
eleventh_ascii text at n w =
    ascii_moved text (at + 6 + 1 + 3) (at + 11 - 1) (omega arith)
    (four_parts text (at + 6 + 1) w.digits).3

-- a letter is ASCII
pub letter_ascii : (text : List ℕ) (at b : ℕ) → b ≡ slice_index text at → is_letter b ≡ true
    → (0 < slice_index text (at + 1 - 1)) × (slice_index text (at + 1 - 1) < 128)
letter_ascii text at b e h =
    let same : at ≡ at + 1 - 1 = omega arith in
    let low : 0 < b = grind (arith, nat_tests, h) in
    let high : b < 128 = grind (arith, nat_tests, h) in
    subst (λ i. (0 < slice_index text i) × (slice_index text i < 128)) same
    (omega (arith, e, low), omega (arith, e, high))

-- behind the first half of a pair, at a place said otherwise
behind_half : (text : List ℕ) (at n : ℕ) → FourDigits text (at + 5 + 1) n
    → FourDigits text (at + 6) n
behind_half text at n w =
    let same : at + 5 + 1 ≡ at + 6 = omega arith in subst (λ i. FourDigits text i n) same w

before_half : (text : List ℕ) (at n : ℕ) → FourDigits text (at + 6) n
    → FourDigits text (at + 5 + 1) n
before_half text at n w =
    let same : at + 6 ≡ at + 5 + 1 = omega arith in subst (λ i. FourDigits text i n) same w

pub pair_there : (text : List ℕ) (at high low c : ℕ) → FourDigits text at high
    → is_high_surrogate high ≡ true → slice_index text (at + 5) ≡ backslash
    → FourDigits text (at + 5 + 1) low → is_low_surrogate low ≡ true
    → c ≡ surrogate_pair_char high low → Escape text at (at + 11) (encode_utf8 c)
pair_there text at high low c w p d x q is =
    is_pair text at high low c w p d (behind_half text at low x) q is

pub pair_ascii : (text : List ℕ) (at n : ℕ) → FourDigits text (at + 5 + 1) n
    → (0 < slice_index text (at + 11 - 1)) × (slice_index text (at + 11 - 1) < 128)
pair_ascii text at n w = eleventh_ascii text at n (behind_half text at n w)

pub pair_nowhere : (text : List ℕ) (at high : ℕ) → FourDigits text at high
    → is_high_surrogate high ≡ true
    → ((low : ℕ) → slice_index text (at + 5) ≡ backslash → FourDigits text (at + 5 + 1) low
    → is_low_surrogate low ≡ true → ⊥)
    → (to : ℕ) (s : List ℕ) → Escape text at to s → ⊥
pair_nowhere text at high w p f =
    no_pair text at high w p (λ low d x q. f low d (before_half text at low x) q)

-- the last half is none where its backslash, its `u`, its digits or its number isn't there
pub no_low : (text : List ℕ) (at n : ℕ) → FourDigits text (at + 1) n → is_low_surrogate n ≡ false
    → (low : ℕ) → slice_index text at ≡ backslash → FourDigits text (at + 1) low
    → is_low_surrogate low ≡ true → ⊥
no_low text at n w h low d x q =
    false≢true (sym h ∙ ap is_low_surrogate (four_one text (at + 1) n low w x) ∙ q)

behind_letter : (text : List ℕ) (at : ℕ) → are_hex text (at + 1 + 1) 4 ≡ are_hex text (at + 2) 4
behind_letter text at =
    let same : at + 1 + 1 ≡ at + 2 = omega arith in ap (λ i. are_hex text i 4) same

pub low_digits : (text : List ℕ) (at : ℕ) → (are_hex text (at + 2) 4 ≡ true → ⊥)
    → (low : ℕ) → slice_index text at ≡ backslash → FourDigits text (at + 1) low
    → is_low_surrogate low ≡ true → ⊥
low_digits text at f low d x q = f (sym (behind_letter text at) ∙ x.digits)

pub four_behind : (text : List ℕ) (at n : ℕ) → slice_index text (at + 1) ≡ 117
    → are_hex text (at + 2) 4 ≡ true → n ≡ digits_value 16 text (at + 2) 4
    → FourDigits text (at + 1) n
four_behind text at n h x e =
    let same : at + 1 + 1 ≡ at + 2 = omega arith in
    record {
      letter = h;
      digits = behind_letter text at ∙ x;
      means = e ∙ sym (ap (λ i. digits_value 16 text i 4) same);
    }

-- whether half of a pair stands there
test_true : (b c : ℕ) → b ≡ c → (b == c) ≡ true
test_true b c e = grind (arith, nat_tests, e)

test_false : (b c : ℕ) → (b ≡ c → ⊥) → (b == c) ≡ false
test_false b c e = grind (arith, nat_tests, e)

or_false : (b : Bool) → (b || false) ≡ b
or_false true = refl
or_false false = refl

half_known : (text : List ℕ) (at n : ℕ) (first other short long : Bool)
    → (slice_index text at == 117) ≡ first → (slice_index text at == 85) ≡ other
    → are_hex text (at + 1) 4 ≡ short → are_hex text (at + 1) 8 ≡ long
    → says_half text at ≡ ((first && (short && is_half (digits_value 16 text (at + 1) 4)))
    || (other && (long && is_half (digits_value 16 text (at + 1) 8))))
half_known text at n first other short long f o s l i =
    (f i && (s i && is_half (digits_value 16 text (at + 1) 4)))
    || (o i && (l i && is_half (digits_value 16 text (at + 1) 8)))

-- behind an `u`
module _ (text : List ℕ) (at : ℕ) (h : slice_index text at ≡ 117) where
  no_other : slice_index text at ≡ 85 → ⊥
  no_other e = absurd (omega (arith, e, h))

  pub half_short : (n : ℕ) → are_hex text (at + 1) 4 ≡ true
      → n ≡ digits_value 16 text (at + 1) 4 → is_half n ≡ says_half text at
  half_short n x e =
      ap is_half e ∙ sym (or_false (is_half (digits_value 16 text (at + 1) 4)))
      ∙ sym (half_known text at n true false true _ (test_true _ _ h) (test_false _ _ no_other) x
      refl)

  pub half_no_short : (are_hex text (at + 1) 4 ≡ true → ⊥) → false ≡ says_half text at
  half_no_short f =
      sym (half_known text at 0 true false false _ (test_true _ _ h) (test_false _ _ no_other)
      (by (are_hex text (at + 1) 4) f) refl)
    where
      by : (b : Bool) → (b ≡ true → ⊥) → b ≡ false
      by true f = absurd (f refl)
      by false f = refl

-- behind an `U`
module _ (text : List ℕ) (at : ℕ) (h : slice_index text at ≡ 85) where
  no_first : slice_index text at ≡ 117 → ⊥
  no_first e = absurd (omega (arith, e, h))

  pub half_long : (n : ℕ) → are_hex text (at + 1) 8 ≡ true
      → n ≡ digits_value 16 text (at + 1) 8 → is_half n ≡ says_half text at
  half_long n x e =
      ap is_half e
      ∙ sym (half_known text at n false true _ true (test_false _ _ no_first) (test_true _ _ h)
      refl x)

  pub half_no_long : (are_hex text (at + 1) 8 ≡ true → ⊥) → false ≡ says_half text at
  half_no_long f =
      sym (half_known text at 0 false true _ false (test_false _ _ no_first) (test_true _ _ h)
      refl (by (are_hex text (at + 1) 8) f))
    where
      by : (b : Bool) → (b ≡ true → ⊥) → b ≡ false
      by true f = absurd (f refl)
      by false f = refl

-- behind neither
pub half_of_other : (text : List ℕ) (at : ℕ) → (slice_index text at ≡ 117 → ⊥)
    → (slice_index text at ≡ 85 → ⊥) → false ≡ says_half text at
half_of_other text at f g =
    sym (half_known text at 0 false false _ _ (test_false _ _ f) (test_false _ _ g) refl refl)

-- which escape stands there, and which don't
pub ruleset escapes = (
  is_letter_there,
  is_itself_there,
  is_long,
  no_long,
  said_long,
  eighth_ascii,
  no_control,
  is_control,
  second_ascii,
  letter_ascii,
)
