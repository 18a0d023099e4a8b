-- Laws of the numbers of one hex digit or two, and of octal digits, that escapes say.
use Rattle.std.proofs.Common.{◌≡◌, ◌≢◌, ℕ, ◌+◌, ◌-◌, ◌*◌, ◌<◌, true, false, List, arith, subst, inl}
use Rattle.std.proofs.Common.{sym, ap, ◌∙◌, encode_utf8, inr, refl}
use Rattle.std.specs.Prelude.{slice_index, ◌==◌, ◌||◌}
use Rattle.std.specs.Char.{digit_value, is_digit}
use Rattle.std.proofs.lemmas.Bool.{false≢true}
use Rattle.std.proofs.lemmas.Bool.Decides.{nat_tests}
use Rattle.resb_icu_grammar.proofs.FewDigitsLemmas.{few_last, FewDigits-one}
use Rattle.resb_icu_grammar.proofs.FewDigitsLemmas.{Says, said_none, said_more, few_said, few_first}
use Rattle.resb_grammar.specs.Group.{is_hex}
use Rattle.resb_icu_grammar.specs.Escapes.{Escape, itself, letter, four_digits, pair, eight_digits}
use Rattle.resb_icu_grammar.specs.Escapes.{control, short_hex, octal}
use Rattle.resb_icu_grammar.specs.Escapes.{is_letter, begins_longer}
use Rattle.resb_icu_grammar.specs.Escapes.{is_lost, FewDigits}
use Rattle.resb_icu_text.specs.Inner.Escaped.{ShortNumber, by_hex, by_octal}

-- no hex digits stand where the first is none
pub no_short_hex : (text : List ℕ) (at : ℕ) → slice_index text at ≡ 120
    → is_hex (slice_index text (at + 1)) ≡ false
    → (to c : ℕ) → ShortNumber text at to c → ⊥
no_short_hex text at e h to c (by_hex x p) = false≢true (sym h ∙ few_first p)
no_short_hex text at e h to c (by_octal x o) = x e

-- nor octal ones
pub no_octal_digits : (text : List ℕ) (at : ℕ) → slice_index text at ≢ 120
    → is_digit (slice_index text at) 8 ≡ false → (to c : ℕ) → ShortNumber text at to c → ⊥
no_octal_digits text at e h to c (by_hex x s) = e x
no_octal_digits text at e h to c (by_octal x p) = false≢true (sym h ∙ few_first p)

module _ (text : List ℕ) (at : ℕ) where
  -- the first digit, and a second one
  one : {radix : ℕ} (b v : ℕ) → b ≡ slice_index text at → is_digit b radix ≡ true
      → v ≡ digit_value b → Says radix text at 1 (0 * radix + v)
  one b v e h is = said_more said_none at b v (omega arith) e h is

  two : {radix : ℕ} (b d v w : ℕ) → b ≡ slice_index text at → d ≡ slice_index text (at + 1)
      → is_digit b radix ≡ true → v ≡ digit_value b → is_digit d radix ≡ true → w ≡ digit_value d
      → Says radix text at 2 ((0 * radix + v) * radix + w)
  two b d v w e f h is k are = said_more (one b v e h is) (at + 1) d w (omega arith) f k are

  -- the digits that stand there, and the number that they say
  pub hex_one : (b d v : ℕ) → b ≡ slice_index text at → d ≡ slice_index text (at + 1)
      → is_hex b ≡ true → v ≡ digit_value b → is_hex d ≡ false
      → FewDigits 16 2 text at (at + 1) v
  hex_one b d v e f h is k =
      few_said (one b v e h is) (omega arith) (omega arith) refl (omega arith)
      (inr (sym (ap is_hex f) ∙ k))

  pub hex_two : (b d v w : ℕ) → b ≡ slice_index text at → d ≡ slice_index text (at + 1)
      → is_hex b ≡ true → v ≡ digit_value b → is_hex d ≡ true → w ≡ digit_value d
      → FewDigits 16 2 text at (at + 2) (v * 16 + w)
  hex_two b d v w e f h is k are =
      few_said (two b d v w e f h is k are) (omega arith) (omega arith) refl (omega arith)
      (inl refl)

  pub octal_one : (b d v : ℕ) → b ≡ slice_index text at → d ≡ slice_index text (at + 1)
      → is_digit b 8 ≡ true → v ≡ digit_value b → is_digit d 8 ≡ false
      → FewDigits 8 3 text at (at + 1) v
  octal_one b d v e f h is k =
      few_said (one b v e h is) (omega arith) (omega arith) refl (omega arith)
      (inr (sym (ap (λ c. is_digit c 8) f) ∙ k))

  pub octal_two : (b d g v w : ℕ) → b ≡ slice_index text at → d ≡ slice_index text (at + 1)
      → g ≡ slice_index text (at + 2) → is_digit b 8 ≡ true → v ≡ digit_value b
      → is_digit d 8 ≡ true → w ≡ digit_value d → is_digit g 8 ≡ false
      → FewDigits 8 3 text at (at + 2) (v * 8 + w)
  octal_two b d g v w e f q h is k are l =
      few_said (two b d v w e f h is k are) (omega arith) (omega arith) refl (omega arith)
      (inr (sym (ap (λ c. is_digit c 8) q) ∙ l))

  pub octal_three : (b d g v w x : ℕ) → b ≡ slice_index text at → d ≡ slice_index text (at + 1)
      → g ≡ slice_index text (at + 2) → is_digit b 8 ≡ true → v ≡ digit_value b
      → is_digit d 8 ≡ true → w ≡ digit_value d → is_digit g 8 ≡ true → x ≡ digit_value g
      → FewDigits 8 3 text at (at + 3) ((v * 8 + w) * 8 + x)
  octal_three b d g v w x e f q h is k are l say =
      few_said (said_more (two b d v w e f h is k are) (at + 2) g x (omega arith) q l say)
      (omega arith) (omega arith) refl (omega arith) (inl refl)

pub ruleset short_numbers = (no_short_hex, no_octal_digits)

-- such a number is an escape
pub is_short_number : (text : List ℕ) (at to n c b : ℕ) → b ≡ slice_index text at
    → ShortNumber text at to n → c ≡ n → is_lost b n ≡ false → Escape text at to (encode_utf8 c)
is_short_number text at to n c b e (by_hex x s) same o =
    subst (λ k. Escape text at to (encode_utf8 k)) (sym same)
    (short_hex n to x s (ap (λ f. is_lost f n) (sym (e ∙ x)) ∙ o))
is_short_number text at to n c b e (by_octal x s) same o =
    subst (λ k. Escape text at to (encode_utf8 k)) (sym same)
    (octal n to s (ap (λ f. is_lost f n) (sym e) ∙ o))

-- its last byte is of ASCII
hex_is_ascii : (b : ℕ) → is_hex b ≡ true → (0 < b) × (b < 128)
hex_is_ascii b h = (grind (arith, nat_tests, h), grind (arith, nat_tests, h))

octal_is_ascii : (b : ℕ) → is_digit b 8 ≡ true → (0 < b) × (b < 128)
octal_is_ascii b h = (grind (arith, nat_tests, h), grind (arith, nat_tests, h))

pub last_ascii : (text : List ℕ) (at to c : ℕ) → ShortNumber text at to c
    → (0 < slice_index text (to - 1)) × (slice_index text (to - 1) < 128)
last_ascii text at to c (by_hex x p) = hex_is_ascii (slice_index text (to - 1)) (few_last p)
last_ascii text at to c (by_octal x p) = octal_is_ascii (slice_index text (to - 1)) (few_last p)

-- a byte that begins none of the other escapes
module _ (text : List ℕ) (at b : ℕ) (e : b ≡ slice_index text at)
    (a : is_letter b ≡ false) (u : b ≢ 117) (l : b ≢ 85) (d : b ≢ 99)
    (n : (b == 120 || is_digit b 8) ≡ true) where
  longer : begins_longer b ≡ true
  longer = grind (arith, nat_tests, n)

  -- begins an escape only where it says a number that is meant
  pub numbered : ((to c : ℕ) → ShortNumber text at to c → is_lost b c ≡ false → ⊥)
      → (to : ℕ) (s : List ℕ) → Escape text at to s → ⊥
  numbered f to s (itself g m o) =
      false≢true (sym o ∙ ap begins_longer (sym e) ∙ longer)
  numbered f to s (letter h) = false≢true (sym a ∙ ap is_letter e ∙ h)
  numbered f to s (four_digits c w y z) = u (e ∙ w.letter)
  numbered f to s (pair m k w p q x r) = u (e ∙ w.letter)
  numbered f to s (eight_digits c h x i y z) = l (e ∙ h)
  numbered f to s (control h x m) = d (e ∙ h)
  numbered f to s (short_hex c _ h p o) =
      f to c (by_hex h p) (ap (λ k. is_lost k c) (e ∙ h) ∙ o)
  numbered f to s (octal c _ p o) =
      f to c (by_octal (λ h. no_x (few_first p) h) p)
      (ap (λ k. is_lost k c) e ∙ o)
    where
      no_x : is_digit (slice_index text at) 8 ≡ true → slice_index text at ≡ 120 → ⊥
      no_x h k = false≢true (sym (ap (λ c. is_digit c 8) k) ∙ h)

  -- so not where it says one that is lost
  pub lost_there : (k m : ℕ) → ShortNumber text at k m → is_lost b m ≡ true
      → (to : ℕ) (s : List ℕ) → Escape text at to s → ⊥
  lost_there k m q h = numbered (λ to c p o. other to c q p o)
    where
      other : (to c : ℕ) → ShortNumber text at k m → ShortNumber text at to c
          → is_lost b c ≡ false → ⊥
      other to c (by_hex x s) (by_hex y z) o =
          false≢true (sym o ∙ ap (is_lost b) (FewDigits-one 16 2 text (at + 1) to k c m z s).1 ∙ h)
      other to c (by_hex x s) (by_octal y z) o = y x
      other to c (by_octal x s) (by_hex y z) o = x y
      other to c (by_octal x s) (by_octal y z) o =
          false≢true (sym o ∙ ap (is_lost b) (FewDigits-one 8 3 text at to k c m z s).1 ∙ h)
