-- First backslashes: the walk back to the last quote, and the quote that begins the string.
use Rattle.std.proofs.Common.{◌≡◌, ◌∙◌, ℕ, zero, suc, ◌<◌, ◌≤◌, Bool, true, false, ◌==◌}
use Rattle.std.proofs.Common.{◌&&◌, ◌||◌, not, List, refl, sym, ap, arith, ⊎_elim, inl, inr}
use Rattle.std.specs.Prelude.{slice_index, if◌then◌else◌, ◌⊎◌}
use Rattle.std.proofs.lemmas.Bool.{cases_lt, false≢true, and_parts, or_parts, eqb-true}
use Rattle.std.proofs.lemmas.Bool.{eq-eqb}
use Rattle.resb_grammar.specs.Ascii.{quote, slash, star, line_feed}
use Rattle.resb_diagnostics.specs.Braces.{backslash, mode_at, mode_behind, has_tokens, plain_form}
use Rattle.resb_diagnostics.specs.Braces.{behind_token}
use Rattle.resb_diagnostics.specs.Partners.{IsAmongTokens}
use Rattle.resb_diagnostics.specs.Warnings.{is_quoted, has_backslash, is_first_backslash}
use Rattle.resb_diagnostics.specs.Causes.{NoneBetween, IsFirstBackslash}
use Rattle.resb_diagnostics.specs.declared.braces.Mode.{Mode}
use Rattle.resb_diagnostics.specs.declared.braces.Mode.TheVariants as modes
use Rattle.resb_diagnostics.proofs.Passing.{up}
use Rattle.resb_diagnostics.proofs.PartnersLemmas.{within}

-- a quote begins the string in which a place stands
pub record Inside (text : List ℕ) (n : ℕ) : Type 0 where
  pub from : ℕ
  pub order : from < n
  pub begins : IsAmongTokens plain_form text quote from
  pub goes_on : NoneBetween quote text from n

-- nowhere, one place further on
none_on : (byte : ℕ) (text : List ℕ) (from n : ℕ) → NoneBetween byte text from n
    → (slice_index text n == byte) ≡ false → NoneBetween byte text from (suc n)
none_on byte text from n h isnt k low high e =
    ⊎_elim (λ (w : k < n). h k low w e)
    (λ (w : n ≤ k). let same : k ≡ n = omega (arith, w, high) in
    false≢true (sym isnt ∙ eq-eqb (slice_index text n) byte (ap (slice_index text) (sym same) ∙ e)))
    (cases_lt k n)

-- a byte among tokens behind which quotes go on
begins_quotes : (b : ℕ) → is_quoted (behind_token b) ≡ true → b ≡ quote
begins_quotes b h = by (b == quote) refl h
  where
    other : (c : Bool) → is_quoted (if c then modes.Slash else modes.Tokens) ≡ true → b ≡ quote
    other true e = absurd (false≢true e)
    other false e = absurd (false≢true e)

    by : (c : Bool) → (b == quote) ≡ c
        → is_quoted (if c then modes.Quotes
        else (if b == slash then modes.Slash else modes.Tokens)) ≡ true → b ≡ quote
    by true t e = eqb-true b quote t
    by false t e = other (b == slash) e

-- what stood before a byte behind which quotes go on
quotes_behind : (m : Mode) (b : ℕ) → is_quoted (mode_behind m b) ≡ true
    → ((has_tokens m ≡ true) × (b ≡ quote)) ⊎ ((m ≡ modes.Quotes) × ((b == quote) ≡ false))
quotes_behind modes.Tokens b h = inl (refl, begins_quotes b h)
quotes_behind modes.Slash b h = inl (refl, by (b == slash) (b == star) h)
  where
    by : (c d : Bool) → is_quoted (if c then modes.LineComment
        else (if d then modes.BlockComment else behind_token b)) ≡ true → b ≡ quote
    by true d e = absurd (false≢true e)
    by false true e = absurd (false≢true e)
    by false false e = begins_quotes b e
quotes_behind modes.Quotes b h = inr (refl, by (b == quote) refl h)
  where
    by : (c : Bool) → (b == quote) ≡ c
        → is_quoted (if c then modes.Tokens else modes.Quotes) ≡ true → (b == quote) ≡ false
    by true t e = absurd (false≢true e)
    by false t e = t
quotes_behind modes.LineComment b h = absurd (by (b == line_feed) h)
  where
    by : (c : Bool) → is_quoted (if c then modes.Tokens else modes.LineComment) ≡ true → ⊥
    by true e = false≢true e
    by false e = false≢true e
quotes_behind modes.BlockComment b h = absurd (by (b == star) h)
  where
    by : (c : Bool) → is_quoted (if c then modes.Star else modes.BlockComment) ≡ true → ⊥
    by true e = false≢true e
    by false e = false≢true e
quotes_behind modes.Star b h = absurd (by (b == slash) (b == star) h)
  where
    by : (c d : Bool) → is_quoted (if c then modes.Tokens
        else (if d then modes.Star else modes.BlockComment)) ≡ true → ⊥
    by true d e = false≢true e
    by false true e = false≢true e
    by false false e = false≢true e

quotes_on : (text : List ℕ) (n : ℕ)
    → ((has_tokens (mode_at text n) ≡ true) × (slice_index text n ≡ quote))
    ⊎ ((mode_at text n ≡ modes.Quotes) × ((slice_index text n == quote) ≡ false))
    → (is_quoted (mode_at text n) ≡ true → Inside text n) → Inside text (suc n)
quotes_on text n (inl h) on = record {
  from = n;
  order = omega arith;
  begins = record { fits = within text n 33 h.1; tokens = h.0; stands = h.1 };
  goes_on = λ k low high e. absurd (omega (arith, low, high));
}
quotes_on text n (inr h) on =
    let i = on (ap is_quoted h.0) in record {
      from = i.from;
      order = omega (arith, i.order);
      begins = i.begins;
      goes_on = none_on quote text i.from n i.goes_on h.1;
    }

-- what is in quotes stands in a string that a quote begins
pub inside : (text : List ℕ) (n : ℕ) → is_quoted (mode_at text n) ≡ true → Inside text n
inside text zero h = absurd (false≢true h)
inside text (suc n) h =
    quotes_on text n (quotes_behind (mode_at text n) (slice_index text n) h) (inside text n)

pub isnt_byte : (byte : ℕ) (text : List ℕ) (from n k : ℕ) → NoneBetween byte text from n → from < k
    → k < n → (slice_index text k == byte) ≡ false
isnt_byte byte text from n k none low high = by (slice_index text k == byte) refl
  where
    by : (b : Bool) → (slice_index text k == byte) ≡ b → (slice_index text k == byte) ≡ false
    by true t = absurd (none k low high (eqb-true (slice_index text k) byte t))
    by false t = t

opens_quotes : (m : Mode) → has_tokens m ≡ true → mode_behind m quote ≡ modes.Quotes
opens_quotes modes.Tokens h = refl
opens_quotes modes.Slash h = refl
opens_quotes modes.Quotes h = absurd (false≢true h)
opens_quotes modes.LineComment h = absurd (false≢true h)
opens_quotes modes.BlockComment h = absurd (false≢true h)
opens_quotes modes.Star h = absurd (false≢true h)

-- a string goes on up to a place before which no quote stands
pub in_quotes : (text : List ℕ) (from n : ℕ) → from < n → IsAmongTokens plain_form text quote from
    → NoneBetween quote text from n → mode_at text n ≡ modes.Quotes
in_quotes text from n order begins goes_on =
    up (λ k. mode_at text k ≡ modes.Quotes) (suc from) n
    (ap (mode_behind (mode_at text from)) begins.stands
    ∙ opens_quotes (mode_at text from) begins.tokens)
    (omega (arith, order))
    (λ k low high h. ap (λ m. mode_behind m (slice_index text k)) h
    ∙ ap (λ q. if q then modes.Tokens else modes.Quotes)
    (isnt_byte quote text from n k goes_on (omega (arith, low)) high))

-- the walk back finds no backslash where none stands
walks_none : (text : List ℕ) (from n : ℕ) → from < n → slice_index text from ≡ quote
    → NoneBetween quote text from n → NoneBetween backslash text from n
    → has_backslash text n ≡ false
walks_none text from n order is goes_on none =
    up (λ k. has_backslash text k ≡ false) (suc from) n
    (ap (λ b. if b == quote then false else (b == backslash || has_backslash text from)) is)
    (omega (arith, order))
    (λ k low high h. ap (λ q. if q then false
    else (slice_index text k == backslash || has_backslash text k))
    (isnt_byte quote text from n k goes_on (omega (arith, low)) high)
    ∙ ap (λ b. b || has_backslash text k)
    (isnt_byte backslash text from n k none (omega (arith, low)) high)
    ∙ h)

-- and where it finds none, none stands
none_walked : (text : List ℕ) (from n : ℕ) → from < n → NoneBetween quote text from n
    → has_backslash text n ≡ false → NoneBetween backslash text from n
none_walked text from n order goes_on =
    up (λ k. has_backslash text k ≡ false → NoneBetween backslash text from k) (suc from) n
    (λ h k low high e. omega (arith, low, high))
    (omega (arith, order))
    (λ k low high on h.
    let parts = or_parts (slice_index text k == backslash) (has_backslash text k)
    (sym (ap (λ q. if q then false
    else (slice_index text k == backslash || has_backslash text k))
    (isnt_byte quote text from n k goes_on (omega (arith, low)) high)) ∙ h) in
    none_on backslash text from k (on parts.1) parts.0)

not_false : (b : Bool) → not b ≡ true → b ≡ false
not_false true h = absurd (false≢true h)
not_false false h = refl

-- the test of a first backslash says what one is
pub first_backslash_is : (text : List ℕ) (n : ℕ) → is_first_backslash text n ≡ true
    → IsFirstBackslash text n
first_backslash_is text n h =
    let all = and_parts (is_quoted (mode_at text n) && slice_index text n == backslash)
    (not (has_backslash text n)) h in
    let both = and_parts (is_quoted (mode_at text n)) (slice_index text n == backslash) all.0 in
    let i = inside text n both.0 in record {
      from = i.from;
      order = i.order;
      begins = i.begins;
      goes_on = i.goes_on;
      stands = eqb-true (slice_index text n) backslash both.1;
      first = none_walked text i.from n i.order i.goes_on
          (not_false (has_backslash text n) all.1);
    }

pub is_first_so : (text : List ℕ) (n : ℕ) → IsFirstBackslash text n
    → is_first_backslash text n ≡ true
is_first_so text n h =
    ap (λ m. is_quoted m && slice_index text n == backslash && not (has_backslash text n))
    (in_quotes text h.from n h.order h.begins h.goes_on)
    ∙ ap (λ b. (true && b == backslash) && not (has_backslash text n)) h.stands
    ∙ ap (λ b. (true && true) && not b)
    (walks_none text h.from n h.order h.begins.stands h.goes_on h.first)
