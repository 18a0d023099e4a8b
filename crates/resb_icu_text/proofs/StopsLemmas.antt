-- Laws of the first quote or backslash, as memchr finds it.
use Rattle.std.proofs.Common.{◌≡◌, ◌≢◌, ℕ, ◌+◌, ◌-◌, ◌<◌, ◌≤◌, ◌⊎◌, inl, inr, Bool, true, false}
use Rattle.std.proofs.Common.{List, length, drop, length-drop, arith, sym, ap, ◌∙◌, refl}
use Rattle.std.specs.Prelude.{slice_index, ◌==◌}
use Rattle.std.proofs.lemmas.Bool.Decides.{nat_tests}
use Rattle.std.proofs.lemmas.List.{get_or-drop}
use Rattle.memchr.specs.Find.{is_byte2}
use Rattle.resb_grammar.specs.Ascii as ascii
use Rattle.resb_icu_grammar.specs.Bytes.{backslash}
use Rattle.resb_icu_text.specs.Inner.Stops.{FirstStop, HasNoStop}

-- a quote or a backslash
abbrev pub is_stop : ℕ → Bool
is_stop = is_byte2 ascii.quote backslash

stop_is : (b : ℕ) → is_stop b ≡ true → (b ≡ ascii.quote) ⊎ (b ≡ backslash)
stop_is b e = pick (b == ascii.quote) refl
  where
    pick : (t : Bool) → (b == ascii.quote) ≡ t → (b ≡ ascii.quote) ⊎ (b ≡ backslash)
    pick true h = inl (grind (arith, nat_tests, h))
    pick false h = inr (grind (arith, nat_tests, e, h))

quote_stops : (b : ℕ) → b ≡ ascii.quote → is_stop b ≡ true
quote_stops b e = grind (arith, nat_tests, e)

backslash_stops : (b : ℕ) → b ≡ backslash → is_stop b ≡ true
backslash_stops b e = grind (arith, nat_tests, e)

-- what is left of a text reads as the text does
pub at_rest : (text rest : List ℕ) (from k : ℕ) → rest ≡ drop from text
    → slice_index rest k ≡ slice_index text (from + k)
at_rest text rest from k e = ap (λ l. slice_index l k) e ∙ get_or-drop from text k 0

-- where no byte before this one stops, no byte of the text does
pub none_before : (text rest : List ℕ) (from n : ℕ) → rest ≡ drop from text
    → ((k : ℕ) → k < n → is_stop (slice_index rest k) ≡ true → ⊥)
    → HasNoStop text from (from + n)
none_before text rest from n e never k low high =
    let i : from + (k - from) ≡ k = omega arith in
    let same : slice_index rest (k - from) ≡ slice_index text k =
    at_rest text rest from (k - from) e ∙ ap (λ j. slice_index text j) i in
    let f = never (k - from) (omega (arith, high)) in
    (λ q. f (quote_stops _ (same ∙ q)), λ q. f (backslash_stops _ (same ∙ q)))

-- the first byte of what is left that stops is the first in the text
pub stop_found : (text rest : List ℕ) (from n : ℕ) → rest ≡ drop from text → n < length rest
    → ((k : ℕ) → k < n → is_stop (slice_index rest k) ≡ true → ⊥)
    → is_stop (slice_index rest n) ≡ true → FirstStop text from (from + n)
stop_found text rest from n e lt never is = record {
  order = omega arith;
  fits = omega (arith, lt, ap length e, length-drop from text);
  before = none_before text rest from n e never;
  stops = stop_is _ (ap is_stop (sym (at_rest text rest from n e)) ∙ is);
}

-- a byte stands nowhere among so many from a place on
abbrev Lacks : List ℕ → ℕ → ℕ → ℕ → Type 0
Lacks text from n b = (k : ℕ) → from ≤ k → k < from + n → slice_index text k ≡ b → ⊥

-- what stops behind no more bytes than lack a quote and a backslash is the first that does
pub near_stop : (text : List ℕ) (from n q s : ℕ) → n ≤ q → n ≤ s → from + n < length text
    → (slice_index text (from + n) ≡ ascii.quote) ⊎ (slice_index text (from + n) ≡ backslash)
    → Lacks text from q ascii.quote → Lacks text from s backslash → FirstStop text from (from + n)
near_stop text from n q s below below' fits stops quotes slashes = record {
  order = omega arith;
  fits = fits;
  before = λ k low high. (
    quotes k low (omega (arith, high, below)),
    slashes k low (omega (arith, high, below')),
  );
  stops = stops;
}

-- a first stop that is no quote is a backslash
pub is_backslash : (text : List ℕ) (from at : ℕ) → FirstStop text from at
    → slice_index text at ≢ ascii.quote → slice_index text at ≡ backslash
is_backslash text from at f n = pick f.stops
  where
    pick : (slice_index text at ≡ ascii.quote) ⊎ (slice_index text at ≡ backslash)
        → slice_index text at ≡ backslash
    pick (inl q) = absurd (n q)
    pick (inr b) = b
