-- Passing the bytes of a text of ICU's form one after another: which token two passings are.
use Rattle.std.proofs.Common.{◌≡◌, ◌∙◌, ℕ, suc, ◌<◌, ◌≤◌, Bool, true, false, ◌&&◌, ◌||◌, ◌==◌}
use Rattle.std.proofs.Common.{List, length, refl, ap, subst, arith, Option, Some, None}
use Rattle.std.proofs.Common.{inl, inr}
use Rattle.std.specs.Prelude.{slice_index, not, if◌then◌else◌, ◌⊎◌}
use Rattle.std.proofs.lemmas.Bool.{cases_lt, false≢true}
use Rattle.resb_grammar.specs.Ascii.{colon}
use Rattle.resb_grammar.specs.ByteRuns.{is_line_end}
use Rattle.resb_icu_grammar.specs.Bytes.{is_unquoted}
use Rattle.resb_icu_grammar.specs.Unquoted.{begins_comment}
use Rattle.resb_diagnostics.specs.Braces.{icu_mode_behind, has_icu_tokens}
use Rattle.resb_diagnostics.specs.IcuWarnings.{is_icu_quoted, line_ended, icu_word_start}
use Rattle.resb_diagnostics.specs.IcuWarnings.{word_goes_on, is_in_word, is_in_string, icu_last_at}
use Rattle.resb_diagnostics.specs.IcuWarnings.{icu_warned, icu_token_of, icu_token_at}
use Rattle.resb_diagnostics.specs.IcuWarnings.{of_some_token}
use Rattle.resb_diagnostics.specs.IcuWarnings.{and_one, behind_icu_word, is_colon, is_behind_colon}
use Rattle.resb_diagnostics.specs.IcuKeys.{icu_word_piece}
use Rattle.resb_diagnostics.specs.Groups.{behind_piece}
use Rattle.resb_diagnostics.specs.Inner.IcuTokens.{icu_mode_at, IsIcuBetween, IcuPasses}
use Rattle.resb_diagnostics.specs.Inner.IcuTokens.{IsSilent}
use Rattle.resb_diagnostics.specs.declared.braces.IcuMode.{IcuMode}
use Rattle.resb_diagnostics.specs.declared.braces.IcuMode.TheVariants.{As, Escape, BlockStart}
use Rattle.resb_diagnostics.specs.declared.braces.Mode.TheVariants as modes
use Rattle.resb_diagnostics.specs.declared.icu_tokens.IcuToken.{IcuToken}
use Rattle.resb_diagnostics.specs.declared.icu_tokens.IcuToken.TheVariants as token
use Rattle.resb_diagnostics.proofs.Passing.{up}

-- nothing is passed
pub still : (text : List ℕ) (at : ℕ) → at ≤ length text → IcuPasses text at at None
still text at fits = record {
  order = omega arith;
  fits = fits;
  last = refl;
  found = refl;
  groups = refl;
}

-- a byte is passed, at which this token stands, if one does
pub one_of : (text : List ℕ) (n : ℕ) (t : Option IcuToken) → n < length text
    → icu_token_at text n ≡ t → IcuPasses text n (suc n) t
one_of text n t fits e =
    subst (λ o. IcuPasses text n (suc n) o) e
    (record {
      order = omega arith;
      fits = omega (arith, fits);
      last = refl;
      found = refl;
      groups = refl;
    })

-- a byte among tokens
pub one_token : (text : List ℕ) (n : ℕ) (t : Option IcuToken) → n < length text
    → has_icu_tokens (icu_mode_at text n) ≡ true → icu_token_of text n (slice_index text n) ≡ t
    → IcuPasses text n (suc n) t
one_token text n t fits h e =
    one_of text n t fits
    (ap (λ b. if b then icu_token_of text n (slice_index text n) else None) h ∙ e)

-- a byte in quotes or in a comment
pub one_silent : (text : List ℕ) (n : ℕ) → n < length text
    → has_icu_tokens (icu_mode_at text n) ≡ false → IcuPasses text n (suc n) None
one_silent text n fits h =
    one_of text n None fits
    (ap (λ b. if b then icu_token_of text n (slice_index text n) else None) h)

-- what is passed, and then no token
pub then_quiet : (text : List ℕ) (a b c : ℕ) (t : Option IcuToken) → IcuPasses text a b t
    → IcuPasses text b c None → IcuPasses text a c t
then_quiet text a b c t h k = record {
  order = omega (arith, h.order, k.order);
  fits = k.fits;
  last = k.last ∙ h.last;
  found = k.found ∙ h.found;
  groups = k.groups ∙ h.groups;
}

-- no token, and then a word
pub then_word : (text : List ℕ) (a b c from to : ℕ) → IcuPasses text a b None
    → IcuPasses text b c (Some (token.Word from to))
    → IcuPasses text a c (Some (token.Word from to))
then_word text a b c from to h k = record {
  order = omega (arith, h.order, k.order);
  fits = k.fits;
  last = k.last ∙ ap (behind_icu_word text from to) h.last;
  found = k.found
      ∙ ap (λ ws. and_one ws (of_some_token text (Some (token.Word from to)) (icu_last_at text b)))
      h.found
      ∙ ap (λ l. and_one (icu_warned text a) (of_some_token text (Some (token.Word from to)) l))
      h.last;
  groups = k.groups ∙ ap (behind_piece (icu_word_piece text from to)) h.groups;
}

-- what is among tokens isn't in quotes
pub open_mode : (m : IcuMode) → has_icu_tokens m ≡ true → is_icu_quoted m ≡ false
open_mode (As modes.Tokens) h = refl
open_mode (As modes.Slash) h = refl
open_mode (As modes.Quotes) h = absurd (false≢true h)
open_mode (As modes.LineComment) h = refl
open_mode (As modes.BlockComment) h = refl
open_mode (As modes.Star) h = refl
open_mode Escape h = absurd (false≢true h)
open_mode BlockStart h = refl

-- what is in quotes isn't among tokens
pub quoted_mode : (m : IcuMode) → is_icu_quoted m ≡ true → has_icu_tokens m ≡ false
quoted_mode (As modes.Tokens) h = absurd (false≢true h)
quoted_mode (As modes.Slash) h = absurd (false≢true h)
quoted_mode (As modes.Quotes) h = refl
quoted_mode (As modes.LineComment) h = absurd (false≢true h)
quoted_mode (As modes.BlockComment) h = absurd (false≢true h)
quoted_mode (As modes.Star) h = absurd (false≢true h)
quoted_mode Escape h = refl
quoted_mode BlockStart h = refl

never : (b : Bool) → (b && false) ≡ false
never true = refl
never false = refl

-- a byte in quotes or in a comment is none of a word
pub silent_word : (text : List ℕ) (k : ℕ) → has_icu_tokens (icu_mode_at text k) ≡ false
    → is_in_word text k ≡ false
silent_word text k h =
    ap (λ b. (b && has_icu_tokens (icu_mode_at text (suc k))) && word_goes_on text k) h

-- nor is one behind which tokens don't stand
pub last_word : (text : List ℕ) (k : ℕ) → has_icu_tokens (icu_mode_at text (suc k)) ≡ false
    → is_in_word text k ≡ false
last_word text k h =
    ap (λ b. (has_icu_tokens (icu_mode_at text k) && b) && word_goes_on text k) h
    ∙ ap (λ b. b && word_goes_on text k) (never (has_icu_tokens (icu_mode_at text k)))

-- nor one with which no word goes on
pub no_word : (text : List ℕ) (k : ℕ) → word_goes_on text k ≡ false → is_in_word text k ≡ false
no_word text k h =
    let open_there = has_icu_tokens (icu_mode_at text k)
    && has_icu_tokens (icu_mode_at text (suc k)) in
    ap (λ b. open_there && b) h ∙ never open_there

-- with a byte that may not stand in an unquoted string none goes on
pub not_unquoted : (text : List ℕ) (k : ℕ) → is_unquoted (slice_index text k) ≡ false
    → word_goes_on text k ≡ false
not_unquoted text k h = ap (λ b. b && not (begins_comment text k)) h

-- nor with the first byte of a comment
pub not_comment : (text : List ℕ) (k : ℕ) → begins_comment text k ≡ true
    → word_goes_on text k ≡ false
not_comment text k h =
    ap (λ b. is_unquoted (slice_index text k) && not b) h
    ∙ never (is_unquoted (slice_index text k))

-- a byte of no word that isn't in quotes
pub no_string : (text : List ℕ) (k : ℕ) → is_icu_quoted (icu_mode_at text k) ≡ false
    → is_in_word text k ≡ false → is_in_string text k ≡ false
no_string text k plain other = ap (λ q. q || is_in_word text k) plain ∙ other

-- behind a byte of a word or in quotes no line has ended
pub ends_none : (text : List ℕ) (k : ℕ) → is_in_string text k ≡ true
    → line_ended text (suc k) ≡ false
ends_none text k h =
    ap (λ i. not i && (is_line_end (slice_index text k) || line_ended text k)) h

-- another byte is no colon
pub other_colon : (text : List ℕ) (k b : ℕ) → slice_index text k ≡ b → (b == colon) ≡ false
    → is_colon text k ≡ false
other_colon text k b e h =
    let open_there = has_icu_tokens (icu_mode_at text k) in
    ap (λ c. open_there && c == colon) e ∙ ap (λ c. open_there && c) h ∙ never open_there

-- nor is one in quotes or in a comment
pub silent_colon : (text : List ℕ) (k : ℕ) → has_icu_tokens (icu_mode_at text k) ≡ false
    → is_colon text k ≡ false
silent_colon text k h = ap (λ b. b && slice_index text k == colon) h

-- one byte more of no word that isn't in quotes, and is no colon
pub more_silent : (text : List ℕ) (from k : ℕ) → IsSilent text from k
    → is_in_string text k ≡ false → is_colon text k ≡ false → IsSilent text from (suc k)
more_silent text from k h here other j low high = by (cases_lt j k)
  where
    by : (j < k) ⊎ (k ≤ j) → (is_in_string text j ≡ false) × (is_colon text j ≡ false)
    by (inl lt) = h j low lt
    by (inr le) =
        let same : k ≡ j = omega arith in
        subst (λ i. (is_in_string text i ≡ false) × (is_colon text i ≡ false)) same (here, other)

-- behind a byte of a word or in quotes nothing is behind a colon
pub colon_none : (text : List ℕ) (k : ℕ) → is_in_string text k ≡ true
    → is_behind_colon text (suc k) ≡ false
colon_none text k h = ap (λ i. not i && (is_colon text k || is_behind_colon text k)) h

-- behind a byte among tokens, that is none of a word, what is behind it, or was before
pub colon_byte : (text : List ℕ) (k : ℕ) → is_in_string text k ≡ false
    → has_icu_tokens (icu_mode_at text k) ≡ true
    → is_behind_colon text (suc k) ≡ (slice_index text k == colon || is_behind_colon text k)
colon_byte text k plain tokens =
    ap (λ q. not q && (is_colon text k || is_behind_colon text k)) plain
    ∙ ap (λ t. (t && slice_index text k == colon) || is_behind_colon text k) tokens

-- such a byte that ends no line
pub ended_same : (text : List ℕ) (k : ℕ) → is_in_string text k ≡ false
    → is_line_end (slice_index text k) ≡ false → line_ended text (suc k) ≡ line_ended text k
ended_same text k plain none =
    ap (λ q. not q && (is_line_end (slice_index text k) || line_ended text k)) plain
    ∙ ap (λ e. e || line_ended text k) none

-- and one that ends a line
pub ended_here : (text : List ℕ) (k : ℕ) → is_in_string text k ≡ false
    → is_line_end (slice_index text k) ≡ true → line_ended text (suc k) ≡ true
ended_here text k plain ends =
    ap (λ q. not q && (is_line_end (slice_index text k) || line_ended text k)) plain
    ∙ ap (λ e. e || line_ended text k) ends

-- behind a byte that is none of a word, and behind which tokens stand
pub between_behind : (text : List ℕ) (k : ℕ) → icu_mode_at text (suc k) ≡ As modes.Tokens
    → is_in_word text k ≡ false → IsIcuBetween text (suc k)
between_behind text k e other = record {
  tokens = ap has_icu_tokens e;
  next = ap (λ m. icu_mode_behind m (slice_index text (suc k))) e;
  word = λ w. ap (λ b. if b then icu_word_start text k else suc k) other;
}

-- where a line ended, as long as no byte of a word or in quotes stands
pub ended_stays : (text : List ℕ) (from to : ℕ) → from ≤ to → IsSilent text from to
    → line_ended text from ≡ true → line_ended text to ≡ true
ended_stays text from to order silence e =
    up (λ k. line_ended text k ≡ true) from to e order
    (λ k low high so_far.
    ap (λ q. not q && (is_line_end (slice_index text k) || line_ended text k))
    (silence k low high).0
    ∙ ap (λ l. is_line_end (slice_index text k) || l) so_far
    ∙ either_way (is_line_end (slice_index text k)))
  where
    either_way : (b : Bool) → (b || true) ≡ true
    either_way true = refl
    either_way false = refl

-- what was behind a colon is, and nothing else, as long as none follows, nor a byte of a word or in
-- quotes
pub colon_stays : (text : List ℕ) (from to : ℕ) → from ≤ to → IsSilent text from to
    → is_behind_colon text to ≡ is_behind_colon text from
colon_stays text from to order silence =
    up (λ k. is_behind_colon text k ≡ is_behind_colon text from) from to refl order
    (λ k low high so_far.
    ap (λ q. not q && (is_colon text k || is_behind_colon text k)) (silence k low high).0
    ∙ ap (λ c. c || is_behind_colon text k) (silence k low high).1 ∙ so_far)
