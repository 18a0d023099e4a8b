-- The digits that an escape says, one by one, and what is known of them.
use Rattle.std.proofs.Common.{◌≡◌, ℕ, suc, ◌+◌, ◌*◌, ◌-◌, ◌<◌, ◌≤◌, ◌⊎◌, inl, inr, true, false}
use Rattle.std.proofs.Common.{List, refl, sym, ap, ◌∙◌, subst, arith, ⊎_elim}
use Rattle.std.specs.Prelude.{slice_index}
use Rattle.std.specs.Char.{is_digit, digit_value}
use Rattle.std.proofs.lemmas.Bool.{false≢true}
use Rattle.resb_grammar.specs.ByteRuns.{Each}
use Rattle.resb_grammar.specs.Lexical.{digits_value}
use Rattle.resb_grammar.proofs.ByteRunsLemmas.{each_more}
use Rattle.resb_grammar.proofs.Numbers.{places_meet}
use Rattle.resb_icu_grammar.specs.Escapes.{FewDigits}

-- n digits of this radix stand from a place on, and say this number
pub record Says (radix : ℕ) (text : List ℕ) (from n value : ℕ) : Type 0 where
  pub each : Each (λ b. is_digit b radix) text from (from + n)
  pub means : value ≡ digits_value radix text from n

module _ {radix : ℕ} {text : List ℕ} {from : ℕ} where
  -- no digits say 0
  pub said_none : Says radix text from 0 0
  said_none = record { each = λ k l m. absurd (omega (arith, l, m)); means = refl }

  -- one digit more
  pub said_more : {n v : ℕ} → Says radix text from n v → (at b w : ℕ) → at ≡ from + n
      → b ≡ slice_index text at → is_digit b radix ≡ true → w ≡ digit_value b
      → Says radix text from (suc n) (v * radix + w)
  said_more {n = n} {v = v} s at b w e f h is =
      let same : b ≡ slice_index text (from + n) = f ∙ ap (slice_index text) e in
      let here : is_digit (slice_index text (from + n)) radix ≡ true =
      sym (ap (λ d. is_digit d radix) same) ∙ h in
      let value : w ≡ digit_value (slice_index text (from + n)) = is ∙ ap digit_value same in
      record {
        each = λ k l m.
            each_more (λ d. is_digit d radix) text from (from + n) s.each here k l
            (omega (arith, m));
        means = λ i. s.means i * radix + value i;
      }

  -- where no more may be said, or no digit follows, they are all
  pub few_said : {most n v to c : ℕ} → Says radix text from n v → 0 < n → n ≤ most → to ≡ from + n
      → c ≡ v → (n ≡ most) ⊎ (is_digit (slice_index text to) radix ≡ false)
      → FewDigits radix most text from to c
  few_said {most = most} {n = n} {to = to} s some few e is stop =
      let count : n ≡ to - from = omega (arith, e) in
      record {
        some = omega (arith, some, e);
        few = omega (arith, few, e);
        each = subst (λ t. Each (λ d. is_digit d radix) text from t) (sym e) s.each;
        longest = ⊎_elim (λ (m : n ≡ most). inl (omega (arith, e, m)))
            (λ (d : is_digit (slice_index text to) radix ≡ false). inr d) stop;
        means = is ∙ s.means ∙ ap (digits_value radix text from) count;
      }

  -- digits that an escape says begin with one
  pub few_first : {most to c : ℕ} → FewDigits radix most text from to c
      → is_digit (slice_index text from) radix ≡ true
  few_first p = p.each from (omega arith) p.some

  -- and end with one
  pub few_last : {most to c : ℕ} → FewDigits radix most text from to c
      → is_digit (slice_index text (to - 1)) radix ≡ true
  few_last {to = to} p = p.each (to - 1) (omega (arith, p.some)) (omega (arith, p.some))

-- they have one end and say one number
pub FewDigits-one : (radix most : ℕ) (text : List ℕ) (from a b c d : ℕ)
    → FewDigits radix most text from a c → FewDigits radix most text from b d → (a ≡ b) × (c ≡ d)
FewDigits-one radix most text from a b c d p q =
    let e : a ≡ b = places_meet a b (stops a b c d p q) (stops b a d c q p) in
    (e, p.means ∙ ap (λ n. digits_value radix text from (n - from)) e ∙ sym q.means)
  where
    stops : (x y v w : ℕ) → FewDigits radix most text from x v → FewDigits radix most text from y w
        → x < y → ⊥
    stops x y v w s t l = ⊎_elim
        (λ (e : x ≡ from + most). omega (arith, e, t.few, l))
        (λ (e : is_digit (slice_index text x) radix ≡ false).
        false≢true (sym e ∙ t.each x (omega (arith, s.some)) l))
        s.longest
