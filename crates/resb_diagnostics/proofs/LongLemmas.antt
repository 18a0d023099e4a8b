-- The last string that spans lines.
use Rattle.std.proofs.Common.{◌≡◌, ◌∙◌, ℕ, zero, suc, ◌<◌, ◌≤◌, Bool, true, false, ◌==◌}
use Rattle.std.proofs.Common.{◌&&◌, List, refl, sym, ap, subst, arith, ⊎_elim, Option, Some, None}
use Rattle.std.specs.Prelude.{slice_index, if◌then◌else◌}
use Rattle.std.proofs.lemmas.Bool.{cases_lt, false≢true, and_parts, eqb-true, eq-eqb}
use Rattle.std.proofs.lemmas.Option.{none-some, same_Some}
use Rattle.resb_grammar.specs.Ascii.{quote, line_feed}
use Rattle.resb_diagnostics.specs.Braces.{Form, mode_in}
use Rattle.resb_diagnostics.specs.Clues.{or_else, quote_at, long_string_in}
use Rattle.resb_diagnostics.specs.Partners.{IsAmongTokens}
use Rattle.resb_diagnostics.specs.Hints.{GoesOnTo, SpansLines, IsLastLong}
use Rattle.resb_diagnostics.proofs.PartnersLemmas.{within}

module _ {M : Type 0} (f : Form M) (text : List ℕ) where
  -- a string goes on with one byte more
  goes_one_more : (q n : ℕ) → GoesOnTo f text q n
      → f.has_tokens (mode_in f text (suc n)) ≡ false → GoesOnTo f text q (suc n)
  goes_one_more q n h out = record {
    begins = h.begins;
    order = omega (arith, h.order);
    inside = λ k low high. ⊎_elim (λ (w : n < k).
        let same : suc n ≡ k = omega (arith, w, high) in
        subst (λ i. f.has_tokens (mode_in f text i) ≡ false) same out)
        (λ (w : k ≤ n). h.inside k low w) (cases_lt n k);
  }

  quoted_by : (q n : ℕ) (a b : Bool) → f.has_tokens (mode_in f text (suc n)) ≡ a
      → (f.has_tokens (mode_in f text n) && slice_index text n == quote) ≡ b
      → (if a then None else (if b then Some n else quote_at f text n)) ≡ Some q
      → (quote_at f text n ≡ Some q → GoesOnTo f text q n) → GoesOnTo f text q (suc n)
  quoted_by q n true b t e h on = absurd (none-some q h)
  quoted_by q n false true t e h on =
      let both = and_parts (f.has_tokens (mode_in f text n)) (slice_index text n == quote) e in
      let is = eqb-true (slice_index text n) quote both.1 in
      subst (λ i. GoesOnTo f text i (suc n)) (same_Some n q h)
      (record {
        begins = record { fits = within text n 33 is; tokens = both.0; stands = is };
        order = omega arith;
        inside = λ k low high. let same : suc n ≡ k = omega (arith, low, high) in
            subst (λ i. f.has_tokens (mode_in f text i) ≡ false) same t;
      })
  quoted_by q n false false t e h on = goes_one_more q n (on h) t

  -- the quote that is found begins the string of a place
  quote_is : (q n : ℕ) → quote_at f text n ≡ Some q → GoesOnTo f text q n
  quote_is q zero h = absurd (none-some q h)
  quote_is q (suc n) h =
      quoted_by q n (f.has_tokens (mode_in f text (suc n)))
      (f.has_tokens (mode_in f text n) && slice_index text n == quote) refl refl h
      (quote_is q n)

  found_by : (q n : ℕ) → GoesOnTo f text q (suc n)
      → (q < n → quote_at f text n ≡ Some q)
      → quote_at f text (suc n) ≡ Some q
  found_by q n h on =
      ap (λ t. if t then None
      else (if f.has_tokens (mode_in f text n) && slice_index text n == quote then Some n
      else quote_at f text n)) (h.inside (suc n) (omega (arith, h.order)) (omega arith))
      ∙ ⊎_elim (λ (w : q < n).
      ap (λ t. if t && slice_index text n == quote then Some n else quote_at f text n)
      (h.inside n w (omega arith)) ∙ on w)
      (λ (w : n ≤ q). let same : q ≡ n = omega (arith, w, h.order) in
      let begins = subst (λ i. IsAmongTokens f text quote i) same h.begins in
      ap (λ t. if t && slice_index text n == quote then Some n else quote_at f text n)
      begins.tokens
      ∙ ap (λ b. if true && b == quote then Some n else quote_at f text n) begins.stands
      ∙ ap Some (sym same)) (cases_lt q n)

  -- the quote of the string of a place is found
  is_quote : (q n : ℕ) → GoesOnTo f text q n → quote_at f text n ≡ Some q
  is_quote q zero h = absurd (omega (arith, h.order))
  is_quote q (suc n) h = found_by q n h (λ w. is_quote q n (record {
    begins = h.begins;
    order = w;
    inside = λ k low high. h.inside k low (omega (arith, high));
  }))

  spans_more : (q n : ℕ) → SpansLines f text n q → SpansLines f text (suc n) q
  spans_more q n h = record {
    feed = h.feed;
    before = omega (arith, h.before);
    stands = h.stands;
    string = h.string;
  }

  -- one byte less, if that is no line feed of the string
  spans_less : (q n : ℕ) → SpansLines f text (suc n) q
      → (slice_index text n ≡ line_feed → GoesOnTo f text q n → ⊥) → SpansLines f text n q
  spans_less q n h isnt =
      ⊎_elim (λ (w : h.feed < n).
      record { feed = h.feed; before = w; stands = h.stands; string = h.string })
      (λ (w : n ≤ h.feed). let same : h.feed ≡ n = omega (arith, w, h.before) in
      absurd (isnt (sym (ap (slice_index text) same) ∙ h.stands)
      (subst (GoesOnTo f text q) same h.string))) (cases_lt h.feed n)

  last_on : (n : ℕ) (o : Option ℕ) → IsLastLong f text n o
      → ((q : ℕ) → slice_index text n ≡ line_feed → GoesOnTo f text q n → ⊥)
      → IsLastLong f text (suc n) o
  last_on n None h isnt = λ q s. h q (spans_less q n s (isnt q))
  last_on n (Some q) h isnt =
      (spans_more q n h.0, λ r low s. h.1 r low (spans_less r n s (isnt r)))

  here : (q n : ℕ) → slice_index text n ≡ line_feed → GoesOnTo f text q n
      → IsLastLong f text (suc n) (Some q)
  here q n e g = (
    record { feed = n; before = omega arith; stands = e; string = g },
    λ r low s.
        let outer = s.string.order in
        let less = s.before in
        false≢true (sym (g.inside r low (omega (arith, outer, less)))
        ∙ s.string.begins.tokens),
  )

  long_by : (n : ℕ) (o : Option ℕ) → quote_at f text n ≡ o → slice_index text n ≡ line_feed
      → IsLastLong f text n (long_string_in f text n)
      → IsLastLong f text (suc n) (or_else o (long_string_in f text n))
  long_by n None h e on =
      last_on n (long_string_in f text n) on
      (λ q _ g. none-some q (sym h ∙ is_quote q n g))
  long_by n (Some q) h e on = here q n e (quote_is q n h)

  long_at : (n : ℕ) (b : Bool) → (slice_index text n == line_feed) ≡ b
      → IsLastLong f text n (long_string_in f text n)
      → IsLastLong f text (suc n) (if b
      then or_else (quote_at f text n) (long_string_in f text n) else long_string_in f text n)
  long_at n true e on =
      long_by n (quote_at f text n) refl (eqb-true (slice_index text n) line_feed e) on
  long_at n false e on =
      last_on n (long_string_in f text n) on
      (λ _ is _. false≢true (sym e ∙ eq-eqb (slice_index text n) line_feed is))

  pub long_is : (n : ℕ) → IsLastLong f text n (long_string_in f text n)
  long_is zero = λ q s. let low = s.before in omega (arith, low)
  long_is (suc n) = long_at n (slice_index text n == line_feed) refl (long_is n)
