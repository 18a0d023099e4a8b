-- Strings in quotes of a text of ICU's form, whose backslashes hide the bytes behind them.
use Rattle.std.proofs.Common.{◌≡◌, ◌∙◌, ℕ, suc, ◌+◌, ◌-◌, ◌<◌, ◌≤◌, true}
use Rattle.std.proofs.Common.{List, length, sym, ap, subst, arith, inl, inr}
use Rattle.std.specs.Prelude.{slice_index, if◌then◌else◌, ◌⊎◌}
use Rattle.std.proofs.lemmas.Bool.{cases_lt}
use Rattle.resb_grammar.specs.Ascii.{quote}
use Rattle.resb_diagnostics.specs.Braces.{backslash, mode_behind, icu_mode_behind}
use Rattle.resb_diagnostics.specs.IcuWarnings.{is_icu_quoted}
use Rattle.resb_diagnostics.specs.Inner.Tokens.{IsPlain}
use Rattle.resb_diagnostics.specs.Inner.IcuTokens.{icu_mode_at, IsInQuotes, IsQuotedRest}
use Rattle.resb_diagnostics.specs.declared.braces.IcuMode.TheVariants.{As, Escape}
use Rattle.resb_diagnostics.specs.declared.braces.Mode.TheVariants as modes
use Rattle.resb_diagnostics.proofs.Passing.{up}

-- all bytes from one place on and before another are in quotes, and the byte there is, behind no
-- backslash
pub record QuotedUpTo (text : List ℕ) (from to : ℕ) : Type 0 where
  pub order : from ≤ to
  pub each : (k : ℕ) → from ≤ k → k < to → is_icu_quoted (icu_mode_at text k) ≡ true
  pub here : IsInQuotes text to

-- one place more
each_more : (text : List ℕ) (from k : ℕ)
    → ((j : ℕ) → from ≤ j → j < k → is_icu_quoted (icu_mode_at text j) ≡ true)
    → is_icu_quoted (icu_mode_at text k) ≡ true
    → (j : ℕ) → from ≤ j → j < suc k → is_icu_quoted (icu_mode_at text j) ≡ true
each_more text from k h here j low high = by (cases_lt j k)
  where
    by : (j < k) ⊎ (k ≤ j) → is_icu_quoted (icu_mode_at text j) ≡ true
    by (inl lt) = h j low lt
    by (inr le) =
        let same : k ≡ j = omega arith in
        subst (λ i. is_icu_quoted (icu_mode_at text i) ≡ true) same here

-- up to a place before which neither a quote nor a backslash stands
pub plain_on : (text : List ℕ) (from at to : ℕ) → at ≤ to → QuotedUpTo text from at
    → IsPlain text at to → QuotedUpTo text from to
plain_on text from at to order so_far plain =
    up (QuotedUpTo text from) at to so_far order
    (λ k low high s. record {
      order = omega (arith, s.order);
      each = each_more text from k s.each (ap is_icu_quoted s.here.mode);
      here = record {
        mode = ap (λ m. icu_mode_behind m (slice_index text k)) s.here.mode
            ∙ ap (λ b. if b then Escape else As (mode_behind modes.Quotes (slice_index text k)))
            (plain.backslash k low high)
            ∙ ap (λ b. As (if b then modes.Tokens else modes.Quotes)) (plain.quote k low high);
      };
    })

-- behind a backslash and the byte that it hides
pub hidden_on : (text : List ℕ) (from at : ℕ) → QuotedUpTo text from at
    → slice_index text at ≡ backslash → QuotedUpTo text from (at + 2)
hidden_on text from at s e =
    let escape : icu_mode_at text (suc at) ≡ Escape =
    ap (λ m. icu_mode_behind m (slice_index text at)) s.here.mode
    ∙ ap (icu_mode_behind (As modes.Quotes)) e in
    let next : suc (suc at) ≡ at + 2 = omega arith in
    subst (QuotedUpTo text from) next
    (record {
      order = omega (arith, s.order);
      each = each_more text from (suc at)
          (each_more text from at s.each (ap is_icu_quoted s.here.mode))
          (ap is_icu_quoted escape);
      here = record { mode = ap (λ m. icu_mode_behind m (slice_index text (suc at))) escape };
    })

-- the text ends in quotes
pub open_rest : (text : List ℕ) (from : ℕ) → QuotedUpTo text from (length text)
    → IsQuotedRest text from (length text)
open_rest text from s = record {
  order = s.order;
  fits = omega arith;
  quoted = s.each;
  ends = λ lt. absurd (omega (arith, lt));
}

-- the byte at a place is the text's last
pub last_rest : (text : List ℕ) (from at : ℕ) → at + 1 ≡ length text → QuotedUpTo text from at
    → IsQuotedRest text from (length text)
last_rest text from at last s =
    let next : suc at ≡ length text = omega arith in record {
      order = omega (arith, s.order);
      fits = omega arith;
      quoted = subst (λ n. (k : ℕ) → from ≤ k → k < n
          → is_icu_quoted (icu_mode_at text k) ≡ true) next
          (each_more text from at s.each (ap is_icu_quoted s.here.mode));
      ends = λ lt. absurd (omega (arith, lt));
    }

-- the quote at a place closes the string
pub closed_rest : (text : List ℕ) (from at : ℕ) → at < length text → QuotedUpTo text from at
    → slice_index text at ≡ quote → IsQuotedRest text from (at + 1)
closed_rest text from at fits s closes =
    let next : suc at ≡ at + 1 = omega arith in
    let back : at ≡ at + 1 - 1 = omega arith in record {
      order = omega (arith, s.order);
      fits = omega arith;
      quoted = subst (λ n. (k : ℕ) → from ≤ k → k < n
          → is_icu_quoted (icu_mode_at text k) ≡ true) next
          (each_more text from at s.each (ap is_icu_quoted s.here.mode));
      ends = λ lt. (
        omega (arith, s.order),
        subst (IsInQuotes text) back s.here,
        ap (slice_index text) (sym back) ∙ closes,
      );
    }
