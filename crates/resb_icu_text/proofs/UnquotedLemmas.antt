-- Laws of unquoted strings, as the reader's functions use them.
use Rattle.std.proofs.Common.{◌≡◌, ◌≢◌, ℕ, ◌+◌, ◌<◌, ◌≤◌, true, false, Bool, List, length, arith}
use Rattle.std.proofs.Common.{subst, sym, refl, ap, ◌∙◌, slice_index, slice_range, nat_lt, ◌&&◌}
use Rattle.std.proofs.lemmas.Bool.{false≢true}
use Rattle.std.proofs.lemmas.Bool.Decides.{nat_tests}
use Rattle.std.specs.Str.{IsCharBoundary}
use Rattle.resb_icu_grammar.specs.Unquoted.{Unquoted, goes_on, may_begin, begins_unquoted}
use Rattle.resb_icu_text.specs.Inner.Unquoted.{GoesOnTo}

-- where a byte may begin a string, a character begins
pub begin_boundary : (text : List ℕ) (at : ℕ) → may_begin (slice_index text at) ≡ true
    → at ≤ length text → IsCharBoundary text at
begin_boundary text at h fits = (fits, λ low high. by high)
  where
    by : 128 ≤ slice_index text at → 192 ≤ slice_index text at
    by high = grind (arith, nat_tests, h, high)

-- what was found is one
pub is_unquoted_string : (text : List ℕ) (from to : ℕ) (s : List ℕ)
    → may_begin (slice_index text from) ≡ true → GoesOnTo text from to → from < to
    → s ≡ slice_range text from to → Unquoted text from to s
is_unquoted_string text from to s b g l e = record {
  begins = b;
  some = l;
  fits = g.fits;
  each = g.each;
  longest = g.longest;
  means = e;
}

-- none stands where none may begin
pub no_beginning : (text : List ℕ) (from : ℕ) → may_begin (slice_index text from) ≢ true
    → (to : ℕ) (s : List ℕ) → Unquoted text from to s → ⊥
no_beginning text from h to s w = h w.begins

-- nor where it doesn't go on
pub no_going_on : (text : List ℕ) (from stop : ℕ) → GoesOnTo text from stop → stop ≤ from
    → (to : ℕ) (s : List ℕ) → Unquoted text from to s → ⊥
no_going_on text from stop g l to s w =
    let same : stop ≡ from = omega (arith, l, g.order) in
    false≢true (sym (subst (λ i. goes_on text i ≡ false) same g.longest)
    ∙ w.each from (omega arith) w.some)

-- one that has gone on up to a place and goes on there has gone on up to the next
pub goes_further : (text : List ℕ) (from at : ℕ)
    → ((k : ℕ) → from ≤ k → k < at → goes_on text k ≡ true) → goes_on text at ≡ true
    → (k : ℕ) → from ≤ k → k < at + 1 → goes_on text k ≡ true
goes_further text from at each h k low high = pick (nat_lt k at) refl
  where
    pick : (t : Bool) → nat_lt k at ≡ t → goes_on text k ≡ true
    pick true e = each k low (grind (arith, nat_tests, e))
    pick false e =
        let l : at ≤ k = grind (arith, nat_tests, e) in
        subst (λ i. goes_on text i ≡ true) (omega (arith, l, high)) h

-- where none may begin, or it doesn't go on, none begins
pub begins_none : (text : List ℕ) (at : ℕ) → may_begin (slice_index text at) ≡ false
    → begins_unquoted text at ≡ false
begins_none text at h = ap (λ b. b && goes_on text at) h

pub begins_no_more : (text : List ℕ) (at stop : ℕ) → GoesOnTo text at stop → stop ≤ at
    → begins_unquoted text at ≡ false
begins_no_more text at stop g l =
    let same : stop ≡ at = omega (arith, l, g.order) in
    by (may_begin (slice_index text at)) (subst (λ i. goes_on text i ≡ false) same g.longest)
  where
    by : (b : Bool) → goes_on text at ≡ false → (b && goes_on text at) ≡ false
    by true h = h
    by false h = refl

pub ruleset unquoted_strings = (
  begin_boundary,
  is_unquoted_string,
  no_beginning,
  no_going_on,
  begins_none,
  begins_no_more,
)
