-- Laws of what no text behind a bundle has, as memchr finds it.
use Rattle.std.proofs.Common.{◌≡◌, ℕ, zero, suc, ◌+◌, ◌-◌, ◌<◌, ◌≤◌, ◌⊎◌, inl, inr, ⊎_elim, Bool}
use Rattle.std.proofs.Common.{true, false, List, [], ◌∷◌, Option, Some, None, length, drop, arith}
use Rattle.std.proofs.Common.{length-drop, sym, ap, ◌∙◌, refl}
use Rattle.std.specs.Option.{is_some}
use Rattle.std.specs.Prelude.{slice_index, ◌==◌, ◌||◌, ◌&&◌}
use Rattle.std.proofs.lemmas.Bool.{false≢true, and_parts, and_from, eqb-true}
use Rattle.memchr.specs.Find.{FindsNeedle, IsFirstByte, OccursAt, is_byte}
use Rattle.resb_grammar.specs.Ascii as ascii
use Rattle.resb_grammar.proofs.Lists.{nonzero_inside}
use Rattle.resb_icu_grammar.specs.Bytes.{backslash}
use Rattle.resb_icu_grammar.specs.Bundle.{is_barred}
use Rattle.resb_icu_text.specs.Inner.Behind.{HasBarred, HasNoBarred}
use Rattle.resb_icu_text.proofs.StopsLemmas.{at_rest}

-- what begins a comment of several lines
abbrev pub opening : List ℕ
opening = ascii.slash ∷ ascii.star ∷ []

-- either is enough
first_is : (a b : Bool) → a ≡ true → (a || b) ≡ true
first_is true b e = refl
first_is false b e = absurd (false≢true e)

second_is : (a b : Bool) → b ≡ true → (a || b) ≡ true
second_is true b e = refl
second_is false b e = e

either_is : (a b : Bool) → (a || b) ≡ true → (a ≡ true) ⊎ (b ≡ true)
either_is true b e = inl refl
either_is false b e = inr e

-- what stands in what is left of a text stands in the text
in_text : (text rest : List ℕ) (from n : ℕ) → rest ≡ drop from text → n < length rest
    → from + n < length text
in_text text rest from n e lt = omega (arith, lt, ap length e, length-drop from text)

-- a backslash that is found
pub backslash_found : (text rest : List ℕ) (from n : ℕ) → rest ≡ drop from text → n < length rest
    → (slice_index rest n == backslash) ≡ true → HasBarred text from
backslash_found text rest from n e lt is = record {
  at = from + n;
  order = omega arith;
  fits = in_text text rest from n e lt;
  barred = first_is _ _ (ap (λ b. b == backslash) (sym (at_rest text rest from n e)) ∙ is);
}

-- a `/*` that is found
opening_there : (text rest : List ℕ) (from n : ℕ) → rest ≡ drop from text
    → OccursAt rest opening n → HasBarred text from
opening_there text rest from n e o =
    let fits : n + 2 ≤ length rest = o.fits in
    let here : n + 0 ≡ n = omega arith in
    let behind : from + (n + 1) ≡ from + n + 1 = omega arith in
    let slash : slice_index text (from + n) ≡ ascii.slash =
    sym (at_rest text rest from n e) ∙ (ap (λ i. slice_index rest i) (sym here)
    ∙ o.reads 0 (omega arith)) in
    let star : slice_index text (from + n + 1) ≡ ascii.star =
    ap (λ i. slice_index text i) (sym behind)
    ∙ (sym (at_rest text rest from (n + 1) e) ∙ o.reads 1 (omega arith)) in
    record {
      at = from + n;
      order = omega arith;
      fits = in_text text rest from n e (omega (arith, fits));
      barred = second_is _ _
          (and_from _ _ (ap (λ b. b == ascii.slash) slash) (ap (λ b. b == ascii.star) star));
    }

pub opening_found : (text rest : List ℕ) (from : ℕ) (found : Option ℕ) → rest ≡ drop from text
    → FindsNeedle rest opening 0 found → is_some found ≡ true → HasBarred text from
opening_found text rest from None e h is = absurd (false≢true is)
opening_found text rest from (Some n) e h is = opening_there text rest from n e h.1

-- a `/*` in the text occurs in what is left of it
occurs : (text rest : List ℕ) (from k : ℕ) → rest ≡ drop from text → from ≤ k
    → slice_index text k ≡ ascii.slash → slice_index text (k + 1) ≡ ascii.star
    → OccursAt rest opening (k - from)
occurs text rest from k e low slash star =
    let inside : k + 1 < length text = nonzero_inside text (k + 1) (omega (arith, star)) in
    record {
      fits = omega (arith, inside, ap length e, length-drop from text, low);
      reads = reads;
    }
  where
    reads : (j : ℕ) → j < 2 → slice_index rest (k - from + j) ≡ slice_index opening j
    reads zero l =
        let i : from + (k - from + 0) ≡ k = omega (arith, low) in
        at_rest text rest from (k - from + 0) e ∙ (ap (λ n. slice_index text n) i ∙ slash)
    reads (suc zero) l =
        let i : from + (k - from + 1) ≡ k + 1 = omega (arith, low) in
        at_rest text rest from (k - from + 1) e ∙ (ap (λ n. slice_index text n) i ∙ star)
    reads (suc (suc j)) l = absurd (omega (arith, l))

-- where neither is found, neither stands there
pub none_found : (text rest : List ℕ) (from : ℕ) (found : Option ℕ) → rest ≡ drop from text
    → from ≤ length text
    → ((k : ℕ) → k < length rest → (slice_index rest k == backslash) ≡ true → ⊥)
    → FindsNeedle rest opening 0 found → is_some found ≡ false → HasNoBarred text from
none_found text rest from (Some n) e within never h is = absurd (false≢true (sym is))
none_found text rest from None e within never h is =
    λ k low high. by k low high (is_barred text k) refl
  where
    size : length rest ≡ length text - from
    size = ap length e ∙ length-drop from text

    by : (k : ℕ) → from ≤ k → k < length text → (b : Bool) → is_barred text k ≡ b
        → is_barred text k ≡ false
    by k low high false f = f
    by k low high true t =
        let i : from + (k - from) ≡ k = omega (arith, low) in
        let same : slice_index rest (k - from) ≡ slice_index text k =
        at_rest text rest from (k - from) e ∙ ap (λ n. slice_index text n) i in
        let inside : k - from < length rest = omega (arith, size, low, high) in
        absurd (⊎_elim (λ b. never (k - from) inside (ap (λ n. n == backslash) same ∙ b))
        (λ c. h (k - from) (omega arith) (omega (arith, inside))
        (occurs text rest from k e low (eqb-true _ _ (and_parts _ _ c).0)
        (eqb-true _ _ (and_parts _ _ c).1)))
        (either_is _ _ t))
