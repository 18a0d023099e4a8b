-- A string begins behind the ends of all strings before it.
use Rattle.std.proofs.Common.{◌≡◌, ◌∙◌, ℕ, zero, suc, ◌+◌, ◌<◌, ◌≤◌, Bool, true, false, ◌==◌}
use Rattle.std.proofs.Common.{List, refl, sym, ap, subst, arith, ⊎_elim, Option, Some, None}
use Rattle.std.specs.Prelude.{slice_index, slice_range, if◌then◌else◌}
use Rattle.std.proofs.lemmas.Bool.{cases_lt, false≢true, eqb-true}
use Rattle.std.proofs.lemmas.Option.{none-some}
use Rattle.resb_grammar.specs.Ascii.{left_brace, right_brace, comma, quote}
use Rattle.resb_grammar.specs.ByteRuns.{is_word}
use Rattle.resb_diagnostics.specs.Braces.{mode_at, has_tokens}
use Rattle.resb_diagnostics.specs.Pieces.{PlacedText, TextPiece, a_string, a_type, opening, closing}
use Rattle.resb_diagnostics.specs.Pieces.{a_comma, piece_at, piece_in, token_at, word_at, word_from}
use Rattle.resb_diagnostics.specs.Pieces.{word_start, quote_before, quoted_at, is_behind_colon}
use Rattle.resb_diagnostics.specs.Pieces.{bytes_placed}
use Rattle.resb_diagnostics.specs.Warnings.{is_quoted}
use Rattle.resb_diagnostics.specs.Causes.{NoneBetween}
use Rattle.resb_diagnostics.specs.declared.braces.Mode.{Mode}
use Rattle.resb_diagnostics.specs.declared.braces.Mode.TheVariants as modes
use Rattle.resb_diagnostics.proofs.Passing.{up}
use Rattle.resb_diagnostics.proofs.BackslashLemmas.{Inside, inside, in_quotes, isnt_byte}
use Rattle.resb_diagnostics.proofs.PiecesLemmas.{kind}

abbrev string_place : Option TextPiece → ℕ
string_place (Some (a_string s)) = s.place
string_place _ = 0

-- why a string ends at a place
data StringCause (text : List ℕ) (n : ℕ) (s : PlacedText) : Type 0 where
  in_quotes_to : mode_at text n ≡ modes.Quotes → slice_index text n ≡ quote
      → s.place ≡ quote_before text n → StringCause text n s
  word_to : has_tokens (mode_at text n) ≡ true → is_word (slice_index text n) ≡ true
      → is_word (slice_index text (n + 1)) ≡ false → s.place ≡ word_start text n
      → StringCause text n s

word_cause : (text : List ℕ) (n : ℕ) (s : PlacedText) → has_tokens (mode_at text n) ≡ true
    → is_word (slice_index text n) ≡ true → word_at text n ≡ Some (a_string s)
    → StringCause text n s
word_cause text n s t w e = by (is_word (slice_index text (n + 1))) refl e
  where
    named : (b c : Bool) → is_word (slice_index text (n + 1)) ≡ false
        → Some (if b then a_type (slice_range text (word_start text n) (n + 1))
        else a_string (bytes_placed (slice_range text (word_start text n) (n + 1))
        (word_start text n))) ≡ Some (a_string s)
        → StringCause text n s
    named true c f h = absurd (omega (arith, ap kind h))
    named false c f h = word_to t w f (sym (ap string_place h))

    by : (b : Bool) → is_word (slice_index text (n + 1)) ≡ b
        → (if b then None else Some (word_from text (word_start text n) (n + 1)))
        ≡ Some (a_string s)
        → StringCause text n s
    by true f h = absurd (none-some (a_string s) h)
    by false f h = named (is_behind_colon text (word_start text n)) true f h

token_string : (text : List ℕ) (n : ℕ) (s : PlacedText) → has_tokens (mode_at text n) ≡ true
    → token_at text n (slice_index text n) ≡ Some (a_string s) → StringCause text n s
token_string text n s t e =
    by (is_word (slice_index text n)) (slice_index text n == left_brace)
    (slice_index text n == right_brace) (slice_index text n == comma) refl e
  where
    by : (a b c d : Bool) → is_word (slice_index text n) ≡ a → (if a then word_at text n
        else (if b then Some opening
        else (if c then Some (closing n) else (if d then Some (a_comma n) else None))))
        ≡ Some (a_string s)
        → StringCause text n s
    by true b c d w h = word_cause text n s t w h
    by false true c d w h = absurd (omega (arith, ap kind h))
    by false false true d w h = absurd (omega (arith, ap kind h))
    by false false false true w h = absurd (omega (arith, ap kind h))
    by false false false false w h = absurd (omega (arith, ap kind h))

string_cause : (text : List ℕ) (n : ℕ) (s : PlacedText) → piece_at text n ≡ Some (a_string s)
    → StringCause text n s
string_cause text n s e = by (mode_at text n) refl e
  where
    closes : (b : Bool) → mode_at text n ≡ modes.Quotes → (slice_index text n == quote) ≡ b
        → (if b then Some (quoted_at text n) else None) ≡ Some (a_string s)
        → StringCause text n s
    closes true m q h =
        in_quotes_to m (eqb-true (slice_index text n) quote q) (sym (ap string_place h))
    closes false m q h = absurd (omega (arith, ap kind h))

    by : (m : Mode) → mode_at text n ≡ m → piece_in m text n ≡ Some (a_string s)
        → StringCause text n s
    by modes.Tokens m h = token_string text n s (ap has_tokens m) h
    by modes.Slash m h = token_string text n s (ap has_tokens m) h
    by modes.Quotes m h = closes (slice_index text n == quote) m refl h
    by modes.LineComment m h = absurd (omega (arith, ap kind h))
    by modes.BlockComment m h = absurd (omega (arith, ap kind h))
    by modes.Star m h = absurd (omega (arith, ap kind h))

quote_at_most : (text : List ℕ) (n : ℕ) → quote_before text n ≤ n
quote_at_most text zero = omega arith
quote_at_most text (suc n) = by (slice_index text n == quote) (quote_at_most text n)
  where
    by : (b : Bool) → quote_before text n ≤ n
        → (if b then n else quote_before text n) ≤ suc n
    by true h = omega arith
    by false h = omega (arith, h)

quote_is_last : (text : List ℕ) (from n : ℕ) → from < n → slice_index text from ≡ quote
    → NoneBetween quote text from n → quote_before text n ≡ from
quote_is_last text from n order is none =
    up (λ k. quote_before text k ≡ from) (suc from) n
    (ap (λ b. if b == quote then from else quote_before text from) is)
    (omega (arith, order))
    (λ k low high h. ap (λ q. if q then k else quote_before text k)
    (isnt_byte quote text from n k none (omega (arith, low)) high) ∙ h)

start_at_most : (text : List ℕ) (n : ℕ) → word_start text n ≤ n
start_at_most text zero = omega arith
start_at_most text (suc n) = by (is_word (slice_index text n)) (start_at_most text n)
  where
    by : (b : Bool) → word_start text n ≤ n
        → (if b then word_start text n else suc n) ≤ suc n
    by true h = omega (arith, h)
    by false h = omega arith

word_run : (text : List ℕ) (n k : ℕ) → word_start text n ≤ k → k < n
    → is_word (slice_index text k) ≡ true
word_run text zero k low high = absurd (omega (arith, high))
word_run text (suc n) k low high =
    by (is_word (slice_index text n)) refl low (λ l h. word_run text n k l h)
  where
    by : (b : Bool) → is_word (slice_index text n) ≡ b
        → (if b then word_start text n else suc n) ≤ k
        → (word_start text n ≤ k → k < n → is_word (slice_index text k) ≡ true)
        → is_word (slice_index text k) ≡ true
    by true w l on = ⊎_elim (λ (v : k < n). on l v)
        (λ (v : n ≤ k). let same : n ≡ k = omega (arith, v, high) in
        subst (λ i. is_word (slice_index text i) ≡ true) same w) (cases_lt k n)
    by false w l on = absurd (omega (arith, l, high))

-- no string ends in another one in quotes
none_inside : (text : List ℕ) (m n : ℕ) (t : PlacedText) (i : Inside text n)
    → StringCause text m t → i.from ≤ m → m < n → ⊥
none_inside text m n t i (in_quotes_to mode is _) low high =
    ⊎_elim (λ (w : i.from < m). i.goes_on m w high is)
    (λ (w : m ≤ i.from). let same : i.from ≡ m = omega (arith, w, low) in
    false≢true (sym (ap has_tokens (ap (mode_at text) same ∙ mode)) ∙ i.begins.tokens))
    (cases_lt i.from m)
none_inside text m n t i (word_to tokens word _ _) low high =
    ⊎_elim (λ (w : i.from < m).
    false≢true (sym (ap has_tokens (in_quotes text i.from m w i.begins
    (λ k after before. i.goes_on k after (omega (arith, before, high))))) ∙ tokens))
    (λ (w : m ≤ i.from). let same : i.from ≡ m = omega (arith, w, low) in
    false≢true (sym (ap is_word (sym (ap (slice_index text) same) ∙ i.begins.stands)) ∙ word))
    (cases_lt i.from m)

-- and none in a word
none_in_word : (text : List ℕ) (m n : ℕ) (t : PlacedText) → is_word (slice_index text n) ≡ true
    → StringCause text m t → word_start text n ≤ m → m < n → ⊥
none_in_word text m n t here (in_quotes_to mode is _) low high =
    false≢true (sym (ap is_word is) ∙ word_run text n m low high)
none_in_word text m n t here (word_to tokens word ends _) low high =
    ⊎_elim (λ (w : m + 1 < n).
    false≢true (sym ends ∙ word_run text n (m + 1) (omega (arith, low)) w))
    (λ (w : n ≤ m + 1). let same : m + 1 ≡ n = omega (arith, w, high) in
    false≢true (sym ends ∙ ap (λ k. is_word (slice_index text k)) same ∙ here))
    (cases_lt (m + 1) n)

apart_by : (text : List ℕ) (m n : ℕ) (t s : PlacedText) → m < n → StringCause text m t
    → StringCause text n s → m < s.place
apart_by text m n t s order c (in_quotes_to mode is place) =
    let i = inside text n (ap is_quoted mode) in
    let last = quote_is_last text i.from n i.order i.begins.stands i.goes_on in
    ⊎_elim (λ (w : m < i.from). omega (arith, w, place, last))
    (λ (w : i.from ≤ m). absurd (none_inside text m n t i c w order)) (cases_lt m i.from)
apart_by text m n t s order c (word_to tokens word ends place) =
    ⊎_elim (λ (w : m < word_start text n). omega (arith, w, place))
    (λ (w : word_start text n ≤ m). absurd (none_in_word text m n t word c w order))
    (cases_lt m (word_start text n))

-- a string begins behind the end of each one before it
pub apart : (text : List ℕ) (m n : ℕ) (t s : PlacedText) → m < n
    → piece_at text m ≡ Some (a_string t) → piece_at text n ≡ Some (a_string s) → m < s.place
apart text m n t s order e f =
    apart_by text m n t s order (string_cause text m t e) (string_cause text n s f)

below_by : (text : List ℕ) (n : ℕ) (s : PlacedText) → StringCause text n s → s.place ≤ n
below_by text n s (in_quotes_to _ _ place) =
    let low = quote_at_most text n in omega (arith, place, low)
below_by text n s (word_to _ _ _ place) =
    let low = start_at_most text n in omega (arith, place, low)

-- and not behind its own
pub below : (text : List ℕ) (n : ℕ) (s : PlacedText) → piece_at text n ≡ Some (a_string s)
    → s.place ≤ n
below text n s e = below_by text n s (string_cause text n s e)
