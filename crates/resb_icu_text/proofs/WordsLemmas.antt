-- Laws of words and numbers, as the reader's functions use them.
use Rattle.resb_icu_text.proofs.ReachLemmas.{reach_word}
use Rattle.resb_icu_text.proofs.ReachLemmas.{reach_quote}
use Rattle.std.proofs.Common.{◌≡◌, ◌≢◌, ℕ, zero, suc, ◌+◌, ◌-◌, ◌*◌, ◌<◌, ◌≤◌, ◌⊎◌, true, false}
use Rattle.std.proofs.Common.{List, arith, subst, sym, ap, ◌∙◌, get_or, slice_index, ⊎_elim}
use Rattle.std.specs.Char.{is_digit, digit_value}
use Rattle.std.proofs.lemmas.Bool.{false≢true}
use Rattle.std.proofs.lemmas.Bool.Decides.{nat_tests}
use Rattle.std.proofs.lemmas.Str.{IsCharBoundary-after_ascii}
use Rattle.std.specs.Str.{IsUtf8, IsCharBoundary}
use Rattle.resb_grammar.specs.Ascii as ascii
use Rattle.resb_grammar.specs.ByteRuns.{Run, Each}
use Rattle.resb_grammar.specs.Lexical.{digits_value, negated}
use Rattle.resb_grammar.proofs.Lists.{nonzero_inside}
use Rattle.resb_grammar.proofs.ByteRunsLemmas.{Run-one, each_more}
use Rattle.resb_icu_grammar.specs.Bytes.{is_word}
use Rattle.resb_icu_grammar.specs.Numbers.{AllDigits, Magnitude, decimal, octal, hex}
use Rattle.resb_icu_grammar.specs.Numbers.{is_hex_letter, Signed, unsigned, plus, minus}
use Rattle.resb_icu_grammar.specs.Numbers.{Number, a_word, in_quotes, nothing}
use Rattle.resb_icu_grammar.proofs.Lexical.{magnitude_first, magnitude_order, signed_first}
use Rattle.resb_icu_grammar.proofs.Lexical.{signed_order}

-- digits of this radix stand between two places, and say this number
module _ (text : List ℕ) where
  -- more digits say no smaller number
  digits_grow : (radix from n m k : ℕ) → k ≡ n + m → digits_value (suc radix) text from n
      ≤ digits_value (suc radix) text from k
  digits_grow radix from n zero k e =
      let same : k ≡ n = omega (arith, e) in
      omega (arith, ap (digits_value (suc radix) text from) same)
  digits_grow radix from n (suc m) zero e = absurd (omega (arith, e))
  digits_grow radix from n (suc m) (suc k) e =
      grow _ _ radix _ (digits_grow radix from n m k (omega (arith, e)))
    where
      grow : (a b r d : ℕ) → a ≤ b → a ≤ b * suc r + d
      grow a b r d h = omega arith

  -- one digit more
  digits_next : (radix from at n : ℕ) → at ≡ from + n
      → digits_value radix text from (suc n)
      ≡ digits_value radix text from n * radix + digit_value (slice_index text at)
  digits_next radix from at n e =
      ap (λ i. digits_value radix text from n * radix + digit_value (slice_index text i)) (sym e)

  -- the digits up to a place, and one that stands there
  pub one_digit_more : (radix from at value more b d : ℕ) → from ≤ at
      → Each (λ c. is_digit c radix) text from at
      → value ≡ digits_value radix text from (at - from) → b ≡ slice_index text at
      → is_digit b radix ≡ true → d ≡ digit_value b → more ≡ value * radix + d
      → Each (λ c. is_digit c radix) text from (at + 1)
      × (more ≡ digits_value radix text from (at + 1 - from))
  one_digit_more radix from at value more b d o each means e h is sum =
      let place : at ≡ from + (at - from) = omega (arith, o) in
      let count : suc (at - from) ≡ at + 1 - from = omega (arith, o) in
      let here : is_digit (slice_index text at) radix ≡ true =
      sym (ap (λ c. is_digit c radix) e) ∙ h in (
        each_more (λ c. is_digit c radix) text from at each here,
        sum ∙ (λ i. means i * radix + (is ∙ ap digit_value e) i)
            ∙ sym (digits_next radix from at (at - from) place)
            ∙ ap (digits_value radix text from) count,
      )

  -- digits that exceed a limit say a number beyond it
  pub beyond_limit : (radix from at to more limit : ℕ) → 1 ≤ radix → from ≤ at → at < to
      → more ≡ digits_value radix text from (at + 1 - from) → limit < more
      → (v : ℕ) → AllDigits radix text from to v → v ≤ limit → ⊥
  beyond_limit zero from at to more limit r o l e h v p k = absurd (omega (arith, r))
  beyond_limit (suc radix) from at to more limit r o l e h v p k =
      let grown = digits_grow radix from (at + 1 - from) (to - (at + 1)) (to - from)
      (omega (arith, o, l)) in
      omega (arith, e, h, k, p.means, grown)

  -- where a byte is no digit, they are none
  pub no_digit_there : (radix from at to b limit : ℕ) → from ≤ at → at < to
      → b ≡ slice_index text at → is_digit b radix ≡ false
      → (v : ℕ) → AllDigits radix text from to v → v ≤ limit → ⊥
  no_digit_there radix from at to b limit o l e h v p k =
      false≢true (sym h ∙ ap (λ c. is_digit c radix) e ∙ p.each at o l)

  -- none are there without a place
  pub no_digits_there : (radix from to limit : ℕ) → to ≤ from
      → (v : ℕ) → AllDigits radix text from to v → v ≤ limit → ⊥
  no_digits_there radix from to limit l v p k = omega (arith, l, p.some)

  pub all_there : (radix from to value : ℕ) → from < to
      → Each (λ c. is_digit c radix) text from to → value ≡ digits_value radix text from (to - from)
      → AllDigits radix text from to value
  all_there radix from to value l each means = record { some = l; each = each; means = means }

  -- which number without a sign stands there
  pub no_decimal : (from to limit : ℕ) → slice_index text from ≢ ascii.digit_0
      → ((v : ℕ) → AllDigits 10 text from to v → v ≤ limit → ⊥)
      → (v : ℕ) → Magnitude text from to v → v ≤ limit → ⊥
  no_decimal from to limit z f v (decimal _ y p) k = f v p k
  no_decimal from to limit z f v (octal _ y p) k = z y
  no_decimal from to limit z f v (hex _ y x p) k = z y

  pub no_hex_number : (from to limit : ℕ) → slice_index text from ≡ ascii.digit_0
      → from + 1 < to → is_hex_letter (slice_index text (from + 1)) ≡ true
      → ((v : ℕ) → AllDigits 16 text (from + 2) to v → v ≤ limit → ⊥)
      → (v : ℕ) → Magnitude text from to v → v ≤ limit → ⊥
  no_hex_number from to limit z l x f v (decimal _ y p) k = y z
  no_hex_number from to limit z l x f v (octal _ y p) k =
      let d : is_digit (slice_index text (from + 1)) 8 ≡ true = p.each (from + 1) (omega arith) l in
      grind (arith, nat_tests, x, d)
  no_hex_number from to limit z l x f v (hex _ y w p) k = f v p k

  pub no_octal_number : (from to limit : ℕ) → slice_index text from ≡ ascii.digit_0
      → (from + 1 < to → is_hex_letter (slice_index text (from + 1)) ≡ true → ⊥)
      → ((v : ℕ) → AllDigits 8 text from to v → v ≤ limit → ⊥)
      → (v : ℕ) → Magnitude text from to v → v ≤ limit → ⊥
  no_octal_number from to limit z x f v (decimal _ y p) k = y z
  no_octal_number from to limit z x f v (octal _ y p) k = f v p k
  no_octal_number from to limit z x f v (hex _ y w p) k = x (omega (arith, p.some)) w

  -- which number with a sign stands there
  pub no_plus : (from to : ℕ) → slice_index text from ≡ ascii.plus
      → ((v : ℕ) → Magnitude text (from + 1) to v → v ≤ 2147483647 → ⊥)
      → (v : ℕ) → Signed text from to v → ⊥
  no_plus from to e f v (unsigned _ m l) =
      omega (arith, e, magnitude_first text from to v m)
  no_plus from to e f v (plus _ h m l) = f v m l
  no_plus from to e f v (minus n h m l) = omega (arith, e, h)

  pub no_minus : (from to : ℕ) → slice_index text from ≡ ascii.dash
      → ((v : ℕ) → Magnitude text (from + 1) to v → v ≤ 2147483648 → ⊥)
      → (v : ℕ) → Signed text from to v → ⊥
  no_minus from to e f v (unsigned _ m l) =
      omega (arith, e, magnitude_first text from to v m)
  no_minus from to e f v (plus _ h m l) = omega (arith, e, h)
  no_minus from to e f v (minus n h m l) = f n m l

  pub no_unsigned : (from to : ℕ) → slice_index text from ≢ ascii.plus
      → slice_index text from ≢ ascii.dash
      → ((v : ℕ) → Magnitude text from to v → v ≤ 4294967295 → ⊥)
      → (v : ℕ) → Signed text from to v → ⊥
  no_unsigned from to e d f v (unsigned _ m l) = f v m l
  no_unsigned from to e d f v (plus _ h m l) = e h
  no_unsigned from to e d f v (minus n h m l) = d h

  pub is_minus : (from to n v : ℕ) → slice_index text from ≡ ascii.dash
      → Magnitude text (from + 1) to n → n ≤ 2147483648 → v ≡ negated n → Signed text from to v
  is_minus from to n v e m l is = subst (λ w. Signed text from to w) (sym is) (minus n e m l)

  -- behind a sign alone stands none
  pub no_alone : (from to : ℕ)
      → (slice_index text from ≡ ascii.plus) ⊎ (slice_index text from ≡ ascii.dash)
      → from + 1 ≡ to → (v : ℕ) → Signed text from to v → ⊥
  no_alone from to s e v (unsigned _ m l) =
      let k = magnitude_first text from to v m in
      ⊎_elim (λ (h : slice_index text from ≡ ascii.plus). omega (arith, h, k))
      (λ (h : slice_index text from ≡ ascii.dash). omega (arith, h, k)) s
  no_alone from to s e v (plus _ h m l) =
      omega (arith, e, magnitude_order text (from + 1) to v m)
  no_alone from to s e v (minus n h m l) =
      omega (arith, e, magnitude_order text (from + 1) to n m)

  -- a word that is no number
  pub no_number : (from end : ℕ) → slice_index text from ≢ ascii.quote → Run is_word text from end
      → ((v : ℕ) → Signed text from end v → ⊥) → (to v : ℕ) → Number text from to v → ⊥
  no_number from end q r f to v (a_word _ s n) =
      f v (subst (λ i. Signed text from i v) (Run-one is_word text from to end s r) n)
  no_number from end q r f to v (in_quotes last _ h s n k e) = q h
  no_number from end q r f to v (nothing h k e) = q h

  -- nor is an empty one
  pub no_empty_word : (from end : ℕ) → slice_index text from ≢ ascii.quote
      → Run is_word text from end → from ≡ end → (to v : ℕ) → Number text from to v → ⊥
  no_empty_word from end q r e =
      no_number from end q r (λ v s. omega (arith, e, signed_order text from end v s))

  -- no word in quotes is one whose closing quote isn't there, or that says none
  pub no_closing : (from last : ℕ) → slice_index text from ≡ ascii.quote
      → Run is_word text (from + 1) last → slice_index text last ≢ ascii.quote
      → (to v : ℕ) → Number text from to v → ⊥
  no_closing from last h r n to v (a_word _ s m) =
      let k = signed_first text from to v m in absurd (omega (arith, h, k.0))
  no_closing from last h r n to v (in_quotes end _ k s m q e) =
      n (subst (λ i. slice_index text i ≡ ascii.quote)
      (Run-one is_word text (from + 1) end last s r) q)
  no_closing from last h r n to v (nothing k q e) =
      let same : from + 1 ≡ last = Run-one is_word text (from + 1) (from + 1) last
      (quote_run (from + 1) q) r in
      n (subst (λ i. slice_index text i ≡ ascii.quote) same q)
    where
      quote_run : (at : ℕ) → slice_index text at ≡ ascii.quote → Run is_word text at at
      quote_run at q = record {
        order = omega arith;
        fits = omega (arith, nonzero_inside text at (omega (arith, q)));
        each = λ k l m. absurd (omega (arith, l, m));
        longest = ap is_word q;
      }

  pub no_signed_in_quotes : (from last : ℕ) → slice_index text from ≡ ascii.quote
      → Run is_word text (from + 1) last → last ≢ from + 1
      → ((v : ℕ) → Signed text (from + 1) last v → ⊥)
      → (to v : ℕ) → Number text from to v → ⊥
  no_signed_in_quotes from last h r n f to v (a_word _ s m) =
      let k = signed_first text from to v m in absurd (omega (arith, h, k.0))
  no_signed_in_quotes from last h r n f to v (in_quotes end _ k s m q e) =
      f v (subst (λ i. Signed text (from + 1) i v) (Run-one is_word text (from + 1) end last s r) m)
  no_signed_in_quotes from last h r n f to v (nothing k q e) =
      let w : is_word (slice_index text (from + 1)) ≡ true =
      r.each (from + 1) (omega arith) (omega (arith, n, r.order)) in
      false≢true (ap is_word (sym q) ∙ w)

-- a character begins behind a word
pub behind_word : (text : List ℕ) (from to : ℕ) → IsUtf8 text → Run is_word text from to
    → from < to → IsCharBoundary text to
behind_word text from to u r w =
    let b = get_or text (to - 1) 0 in
    let h : is_word b ≡ true = r.each (to - 1) (omega arith) (omega arith) in
    let some : 0 < b = grind (arith, nat_tests, h) in
    let low : b < 128 = grind (arith, nat_tests, h) in
    let e : to - 1 + 1 ≡ to = omega arith in
    subst (λ i. IsCharBoundary text i) e
    (IsCharBoundary-after_ascii text (to - 1) u (nonzero_inside text (to - 1) some) low)

-- where a reading of a number has looked
pub ruleset numbers_of_words = (reach_word, reach_quote)
