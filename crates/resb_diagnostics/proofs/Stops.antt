-- Quotes and backslashes on the way through a string.
use Rattle.std.proofs.Common.{◌≡◌, ◌∙◌, ℕ, ◌+◌, ◌<◌, ◌≤◌, false, ◌==◌, List, length}
use Rattle.std.proofs.Common.{sym, ap, subst, arith, inl, inr, Some}
use Rattle.std.specs.Prelude.{slice_index, ◌⊎◌}
use Rattle.std.proofs.lemmas.Bool.{cases_lt, ne_eqb}
use Rattle.resb_grammar.specs.Ascii.{quote}
use Rattle.resb_diagnostics.specs.Braces.{backslash}
use Rattle.resb_diagnostics.specs.Inner.Tokens.{NoByte, IsFirst, IsFound, IsPlain, StopsAt}

-- a byte that stands nowhere in two parts
pub nowhere_on : (b : ℕ) (text : List ℕ) (from at to : ℕ) → NoByte b text from at
    → NoByte b text at to → NoByte b text from to
nowhere_on b text from at to h g k low high = by (cases_lt k at)
  where
    by : (k < at) ⊎ (at ≤ k) → (slice_index text k == b) ≡ false
    by (inl lt) = h k low lt
    by (inr le) = g k le high

pub plain_on : (text : List ℕ) (from at to : ℕ) → IsPlain text from at → IsPlain text at to
    → IsPlain text from to
plain_on text from at to h g = record {
  quote = nowhere_on quote text from at to h.quote g.quote;
  backslash = nowhere_on backslash text from at to h.backslash g.backslash;
}

-- a part of a part
pub nowhere_less : (b : ℕ) (text : List ℕ) (from to at : ℕ) → to ≤ at → NoByte b text from at
    → NoByte b text from to
nowhere_less b text from to at le h k low high = h k low (omega arith)

-- a quote first
pub quote_first : (text : List ℕ) (from at : ℕ) → StopsAt text from at
    → slice_index text at ≡ quote → IsFirst quote text from (length text) at
quote_first text from at h e =
    record { order = h.order; fits = h.fits; stands = e; none = h.plain.quote }

-- a backslash first, and then a quote, or none
pub no_quote_here : (text : List ℕ) (from at to : ℕ) → StopsAt text from at
    → NoByte quote text at to → NoByte quote text from to
no_quote_here text from at to h g = nowhere_on quote text from at to h.plain.quote g

-- a stop that is no quote is a backslash
pub not_quote : (text : List ℕ) (from at : ℕ) → StopsAt text from at
    → (slice_index text at ≡ quote → ⊥) → slice_index text at ≡ backslash
not_quote text from at h other = by h.stands
  where
    by : (slice_index text at ≡ quote) ⊎ (slice_index text at ≡ backslash)
        → slice_index text at ≡ backslash
    by (inl e) = absurd (other e)
    by (inr e) = e

pub backslash_first : (text : List ℕ) (from at to : ℕ) → StopsAt text from at → at < to
    → (slice_index text at ≡ quote → ⊥) → IsFound backslash text from to (Some at)
backslash_first text from at to h lt other = record {
  order = h.order;
  fits = lt;
  stands = not_quote text from at h other;
  none = h.plain.backslash;
}

pub quote_later : (text : List ℕ) (from at end : ℕ) → StopsAt text from at
    → IsFirst quote text at (length text) end → IsFirst quote text from (length text) end
quote_later text from at end h g = record {
  order = omega (arith, h.order, g.order);
  fits = g.fits;
  stands = g.stands;
  none = nowhere_on quote text from at end h.plain.quote g.none;
}

pub strictly_later : (text : List ℕ) (at end : ℕ) → (slice_index text at ≡ quote → ⊥)
    → IsFirst quote text at (length text) end → at < end
strictly_later text at end other g = by (cases_lt at end)
  where
    by : (at < end) ⊎ (end ≤ at) → at < end
    by (inl lt) = lt
    by (inr le) =
        let same : end ≡ at = omega (arith, g.order) in
        absurd (other (sym (ap (slice_index text) same) ∙ g.stands))

-- one byte that is neither
pub plain_byte : (text : List ℕ) (from at : ℕ) → IsPlain text from at
    → (slice_index text at ≡ quote → ⊥) → (slice_index text at ≡ backslash → ⊥)
    → IsPlain text from (at + 1)
plain_byte text from at h q s =
    plain_on text from at (at + 1) h (record {
      quote = λ k low high. only (λ n. (slice_index text n == quote) ≡ false) k low high
          (ne_eqb _ quote q);
      backslash = λ k low high. only (λ n. (slice_index text n == backslash) ≡ false) k low high
          (ne_eqb _ backslash s);
    })
  where
    only : (P : ℕ → Type 0) (k : ℕ) → at ≤ k → k < at + 1 → P at → P k
    only P k low high here = subst P (omega arith) here
