-- Which tokens led to a mark of the last one.
use Rattle.std.proofs.Common.{◌≡◌, ◌∙◌, ℕ, Bool, true, false, List, [], ◌∷◌, refl, sym, ap}
use Rattle.std.proofs.Common.{subst, arith}
use Rattle.std.specs.Prelude.{slice_range, not, if◌then◌else◌}
use Rattle.std.proofs.lemmas.Bool.{true≢false}
use Rattle.resb_diagnostics.specs.Groups.{named_by}
use Rattle.resb_diagnostics.specs.IcuWarnings.{is_string, line_ended, is_digit}
use Rattle.resb_diagnostics.specs.IcuWarnings.{behind_icu_word, behind_open}
use Rattle.resb_diagnostics.specs.IcuCauses.{ends_opening, ends_in_key, EndsUnquoted, first}
use Rattle.resb_diagnostics.specs.IcuCauses.{behind_key}
use Rattle.resb_diagnostics.specs.declared.icu_tokens.IcuToken.{IcuToken}
use Rattle.resb_diagnostics.specs.declared.icu_tokens.IcuToken.TheVariants as token
use Rattle.resb_diagnostics.specs.declared.icu_tokens.IcuLast.{IcuLast}
use Rattle.resb_diagnostics.specs.declared.icu_tokens.IcuLast.TheVariants as last
use Rattle.resb_diagnostics.proofs.IcuStateLemmas.{state_of}
use Rattle.resb_diagnostics.proofs.IcuMarks.{Mark, no_mark, typed_mark, open_mark, key_mark}
use Rattle.resb_diagnostics.proofs.IcuMarks.{inner_mark, value_mark, digit_mark, value_digit_mark}
use Rattle.resb_diagnostics.proofs.IcuMarks.{valued_mark, mark_of, begun_in, group_in, typed_in}
use Rattle.resb_diagnostics.proofs.IcuMarks.{key_in, plain_mark, mark_open, close_mark}
use Rattle.resb_diagnostics.proofs.IcuMarks.{string_mark, plain_marks, named_mark, open_marks}
use Rattle.resb_diagnostics.proofs.IcuMarks.{close_marks, mark_number, mark_place}
use Rattle.resb_diagnostics.proofs.UnquotedLemmas.{lasts, WordCase, a_type, plain, word_case}
use Rattle.resb_diagnostics.proofs.UnquotedLemmas.{openings, keys}

-- marks of words, of `{` and of `}`
abbrev word_in : Mark → Bool
word_in open_mark = false
word_in (inner_mark i) = false
word_in (value_mark i) = false
word_in (valued_mark i) = false
word_in _ = true

abbrev open_in : Mark → Bool
open_in no_mark = true
open_in open_mark = true
open_in (inner_mark i) = true
open_in (value_mark i) = true
open_in _ = false

abbrev close_in : Mark → Bool
close_in no_mark = true
close_in (valued_mark i) = true
close_in _ = false

plain_word : (d : Bool) (k : Mark) → word_in (plain_mark d k) ≡ true
plain_word true no_mark = refl
plain_word true typed_mark = refl
plain_word true open_mark = refl
plain_word true key_mark = refl
plain_word true (inner_mark i) = refl
plain_word true (value_mark i) = refl
plain_word true (digit_mark i) = refl
plain_word true (value_digit_mark i) = refl
plain_word true (valued_mark i) = refl
plain_word false no_mark = refl
plain_word false typed_mark = refl
plain_word false open_mark = refl
plain_word false key_mark = refl
plain_word false (inner_mark i) = refl
plain_word false (value_mark i) = refl
plain_word false (digit_mark i) = refl
plain_word false (value_digit_mark i) = refl
plain_word false (valued_mark i) = refl

type_word : (b : Bool) → word_in (if b then typed_mark else no_mark) ≡ true
type_word true = refl
type_word false = refl

open_word : (n : ℕ) (b y g k : Bool) → open_in (mark_open n b y g k) ≡ true
open_word n true true true true = refl
open_word n true true true false = refl
open_word n true true false true = refl
open_word n true true false false = refl
open_word n true false true true = refl
open_word n true false true false = refl
open_word n true false false true = refl
open_word n true false false false = refl
open_word n false true true true = refl
open_word n false true true false = refl
open_word n false true false true = refl
open_word n false true false false = refl
open_word n false false true true = refl
open_word n false false true false = refl
open_word n false false false true = refl
open_word n false false false false = refl

close_word : (k : Mark) → close_in (close_mark k) ≡ true
close_word no_mark = refl
close_word typed_mark = refl
close_word open_mark = refl
close_word key_mark = refl
close_word (inner_mark i) = refl
close_word (value_mark i) = refl
close_word (digit_mark i) = refl
close_word (value_digit_mark i) = refl
close_word (valued_mark i) = refl

plain_digit : (d : Bool) (k : Mark) (m : ℕ) → plain_mark d k ≡ digit_mark m
    → (d ≡ true) × (k ≡ inner_mark m)
plain_digit true no_mark m e = absurd (omega (arith, ap mark_number e))
plain_digit true typed_mark m e = absurd (omega (arith, ap mark_number e))
plain_digit true open_mark m e = absurd (omega (arith, ap mark_number e))
plain_digit true key_mark m e = absurd (omega (arith, ap mark_number e))
plain_digit true (inner_mark i) m e = (refl, ap inner_mark (ap mark_place e))
plain_digit true (value_mark i) m e = absurd (omega (arith, ap mark_number e))
plain_digit true (digit_mark i) m e = absurd (omega (arith, ap mark_number e))
plain_digit true (value_digit_mark i) m e = absurd (omega (arith, ap mark_number e))
plain_digit true (valued_mark i) m e = absurd (omega (arith, ap mark_number e))
plain_digit false no_mark m e = absurd (omega (arith, ap mark_number e))
plain_digit false typed_mark m e = absurd (omega (arith, ap mark_number e))
plain_digit false open_mark m e = absurd (omega (arith, ap mark_number e))
plain_digit false key_mark m e = absurd (omega (arith, ap mark_number e))
plain_digit false (inner_mark i) m e = absurd (omega (arith, ap mark_number e))
plain_digit false (value_mark i) m e = absurd (omega (arith, ap mark_number e))
plain_digit false (digit_mark i) m e = absurd (omega (arith, ap mark_number e))
plain_digit false (value_digit_mark i) m e = absurd (omega (arith, ap mark_number e))
plain_digit false (valued_mark i) m e = absurd (omega (arith, ap mark_number e))

plain_value : (d : Bool) (k : Mark) (m : ℕ) → plain_mark d k ≡ value_digit_mark m
    → (d ≡ true) × (k ≡ value_mark m)
plain_value true no_mark m e = absurd (omega (arith, ap mark_number e))
plain_value true typed_mark m e = absurd (omega (arith, ap mark_number e))
plain_value true open_mark m e = absurd (omega (arith, ap mark_number e))
plain_value true key_mark m e = absurd (omega (arith, ap mark_number e))
plain_value true (inner_mark i) m e = absurd (omega (arith, ap mark_number e))
plain_value true (value_mark i) m e = (refl, ap value_mark (ap mark_place e))
plain_value true (digit_mark i) m e = absurd (omega (arith, ap mark_number e))
plain_value true (value_digit_mark i) m e = absurd (omega (arith, ap mark_number e))
plain_value true (valued_mark i) m e = absurd (omega (arith, ap mark_number e))
plain_value false no_mark m e = absurd (omega (arith, ap mark_number e))
plain_value false typed_mark m e = absurd (omega (arith, ap mark_number e))
plain_value false open_mark m e = absurd (omega (arith, ap mark_number e))
plain_value false key_mark m e = absurd (omega (arith, ap mark_number e))
plain_value false (inner_mark i) m e = absurd (omega (arith, ap mark_number e))
plain_value false (value_mark i) m e = absurd (omega (arith, ap mark_number e))
plain_value false (digit_mark i) m e = absurd (omega (arith, ap mark_number e))
plain_value false (value_digit_mark i) m e = absurd (omega (arith, ap mark_number e))
plain_value false (valued_mark i) m e = absurd (omega (arith, ap mark_number e))

open_is_inner : (n : ℕ) (b y g k : Bool) (m : ℕ) → mark_open n b y g k ≡ inner_mark m
    → (n ≡ m) × (g ≡ true)
open_is_inner n true true true true m e = absurd (omega (arith, ap mark_number e))
open_is_inner n true true true false m e = absurd (omega (arith, ap mark_number e))
open_is_inner n true true false true m e = absurd (omega (arith, ap mark_number e))
open_is_inner n true true false false m e = absurd (omega (arith, ap mark_number e))
open_is_inner n true false true true m e = (ap mark_place e, refl)
open_is_inner n true false true false m e = (ap mark_place e, refl)
open_is_inner n true false false true m e = absurd (omega (arith, ap mark_number e))
open_is_inner n true false false false m e = absurd (omega (arith, ap mark_number e))
open_is_inner n false true true true m e = absurd (omega (arith, ap mark_number e))
open_is_inner n false true true false m e = absurd (omega (arith, ap mark_number e))
open_is_inner n false true false true m e = absurd (omega (arith, ap mark_number e))
open_is_inner n false true false false m e = absurd (omega (arith, ap mark_number e))
open_is_inner n false false true true m e = absurd (omega (arith, ap mark_number e))
open_is_inner n false false true false m e = absurd (omega (arith, ap mark_number e))
open_is_inner n false false false true m e = absurd (omega (arith, ap mark_number e))
open_is_inner n false false false false m e = absurd (omega (arith, ap mark_number e))

open_is_value : (n : ℕ) (b y g k : Bool) (m : ℕ) → mark_open n b y g k ≡ value_mark m
    → (n ≡ m) × (k ≡ true)
open_is_value n true true true true m e = absurd (omega (arith, ap mark_number e))
open_is_value n true true true false m e = absurd (omega (arith, ap mark_number e))
open_is_value n true true false true m e = absurd (omega (arith, ap mark_number e))
open_is_value n true true false false m e = absurd (omega (arith, ap mark_number e))
open_is_value n true false true true m e = absurd (omega (arith, ap mark_number e))
open_is_value n true false true false m e = absurd (omega (arith, ap mark_number e))
open_is_value n true false false true m e = (ap mark_place e, refl)
open_is_value n true false false false m e = absurd (omega (arith, ap mark_number e))
open_is_value n false true true true m e = absurd (omega (arith, ap mark_number e))
open_is_value n false true true false m e = absurd (omega (arith, ap mark_number e))
open_is_value n false true false true m e = absurd (omega (arith, ap mark_number e))
open_is_value n false true false false m e = absurd (omega (arith, ap mark_number e))
open_is_value n false false true true m e = absurd (omega (arith, ap mark_number e))
open_is_value n false false true false m e = absurd (omega (arith, ap mark_number e))
open_is_value n false false false true m e = absurd (omega (arith, ap mark_number e))
open_is_value n false false false false m e = absurd (omega (arith, ap mark_number e))

close_is_valued : (k : Mark) (m : ℕ) → close_mark k ≡ valued_mark m → k ≡ value_digit_mark m
close_is_valued no_mark m e = absurd (omega (arith, ap mark_number e))
close_is_valued typed_mark m e = absurd (omega (arith, ap mark_number e))
close_is_valued open_mark m e = absurd (omega (arith, ap mark_number e))
close_is_valued key_mark m e = absurd (omega (arith, ap mark_number e))
close_is_valued (inner_mark i) m e = absurd (omega (arith, ap mark_number e))
close_is_valued (value_mark i) m e = absurd (omega (arith, ap mark_number e))
close_is_valued (digit_mark i) m e = absurd (omega (arith, ap mark_number e))
close_is_valued (value_digit_mark i) m e = ap value_digit_mark (ap mark_place e)
close_is_valued (valued_mark i) m e = absurd (omega (arith, ap mark_number e))

module _ (text : List ℕ) where
  word_mark : (from to : ℕ) (l : IcuLast)
      → word_in (mark_of (behind_icu_word text from to l)) ≡ true
  word_mark from to l = by (word_case text from to l)
    where
      by : WordCase text from to l → word_in (mark_of (behind_icu_word text from to l)) ≡ true
      by (a_type c e) =
          ap (λ k. word_in (mark_of k)) e
          ∙ ap word_in (named_mark (named_by (slice_range text from to)) l)
          ∙ type_word (begun_in (state_of l))
      by (plain c e) =
          ap (λ k. word_in (mark_of k)) e
          ∙ ap word_in (plain_marks from (line_ended text from)
          (is_digit (slice_range text from to)) l)
          ∙ plain_word (is_digit (slice_range text from to)) (mark_of l)

  open_mark_in : (n : ℕ) (l : IcuLast) → open_in (mark_of (behind_open n l)) ≡ true
  open_mark_in n l =
      ap open_in (open_marks n l)
      ∙ open_word n (begun_in (state_of l)) (typed_in (mark_of l)) (group_in (state_of l))
      (key_in (mark_of l))

  close_mark_in : (ts : List IcuToken)
      → close_in (mark_of (lasts text (token.Close ∷ ts))) ≡ true
  close_mark_in ts =
      ap close_in (close_marks (lasts text ts)) ∙ close_word (mark_of (lasts text ts))

  -- tokens end with a `{` that is the first in a group, or behind a key
  record EndsInner (m : ℕ) (ts : List IcuToken) : Type 0 where
    pub rest : List IcuToken
    pub parts : ts ≡ token.Open m ∷ rest
    pub opening : ends_opening text rest ≡ true

  record EndsValue (m : ℕ) (ts : List IcuToken) : Type 0 where
    pub rest : List IcuToken
    pub parts : ts ≡ token.Open m ∷ rest
    pub key : ends_in_key text rest ≡ true

  inner_is : (m : ℕ) (ts : List IcuToken) → mark_of (lasts text ts) ≡ inner_mark m
      → EndsInner m ts
  inner_is m [] e = absurd (omega (arith, ap mark_number e))
  inner_is m (token.Piece n ∷ ts) e =
      absurd (omega (
        arith,
        ap mark_number
            (sym (string_mark n (line_ended text n) (lasts text ts)) ∙ e),
      ))
  inner_is m (token.Word from to ∷ ts) e =
      absurd (true≢false (sym (word_mark from to (lasts text ts)) ∙ ap word_in e))
  inner_is m (token.Close ∷ ts) e =
      absurd (true≢false (sym (close_mark_in ts) ∙ ap close_in e))
  inner_is m (token.Comma ∷ ts) e = absurd (omega (arith, ap mark_number e))
  inner_is m (token.Open n ∷ ts) e =
      let l = lasts text ts in
      let h = open_is_inner n (begun_in (state_of l)) (typed_in (mark_of l))
      (group_in (state_of l)) (key_in (mark_of l)) m (sym (open_marks n l) ∙ e) in record {
        rest = ts;
        parts = ap (λ i. token.Open i ∷ ts) h.0;
        opening = openings text ts ∙ h.1;
      }

  value_is : (m : ℕ) (ts : List IcuToken) → mark_of (lasts text ts) ≡ value_mark m
      → EndsValue m ts
  value_is m [] e = absurd (omega (arith, ap mark_number e))
  value_is m (token.Piece n ∷ ts) e =
      absurd (omega (
        arith,
        ap mark_number
            (sym (string_mark n (line_ended text n) (lasts text ts)) ∙ e),
      ))
  value_is m (token.Word from to ∷ ts) e =
      absurd (true≢false (sym (word_mark from to (lasts text ts)) ∙ ap word_in e))
  value_is m (token.Close ∷ ts) e =
      absurd (true≢false (sym (close_mark_in ts) ∙ ap close_in e))
  value_is m (token.Comma ∷ ts) e = absurd (omega (arith, ap mark_number e))
  value_is m (token.Open n ∷ ts) e =
      let l = lasts text ts in
      let h = open_is_value n (begun_in (state_of l)) (typed_in (mark_of l))
      (group_in (state_of l)) (key_in (mark_of l)) m (sym (open_marks n l) ∙ e) in record {
        rest = ts;
        parts = ap (λ i. token.Open i ∷ ts) h.0;
        key = keys text ts ∙ h.1;
      }

  -- a word of one digit, behind such a `{`
  record EndsDigit (m : ℕ) (k : Mark) (ts : List IcuToken) : Type 0 where
    pub from : ℕ
    pub to : ℕ
    pub rest : List IcuToken
    pub parts : ts ≡ token.Word from to ∷ rest
    pub string : is_string text (token.Word from to) ≡ true
    pub digit : is_digit (slice_range text from to) ≡ true
    pub mark : mark_of (lasts text rest) ≡ k

  digit_is : (m : ℕ) (ts : List IcuToken) → mark_of (lasts text ts) ≡ digit_mark m
      → EndsDigit m (inner_mark m) ts
  digit_is m [] e = absurd (omega (arith, ap mark_number e))
  digit_is m (token.Piece n ∷ ts) e =
      absurd (omega (
        arith,
        ap mark_number
            (sym (string_mark n (line_ended text n) (lasts text ts)) ∙ e),
      ))
  digit_is m (token.Open n ∷ ts) e =
      absurd (true≢false (sym (open_mark_in n (lasts text ts)) ∙ ap open_in e))
  digit_is m (token.Close ∷ ts) e =
      absurd (true≢false (sym (close_mark_in ts) ∙ ap close_in e))
  digit_is m (token.Comma ∷ ts) e = absurd (omega (arith, ap mark_number e))
  digit_is m (token.Word from to ∷ ts) e = by (word_case text from to (lasts text ts))
    where
      typed : (b : Bool) → (if b then typed_mark else no_mark) ≡ digit_mark m → ⊥
      typed true h = omega (arith, ap mark_number h)
      typed false h = omega (arith, ap mark_number h)

      by : WordCase text from to (lasts text ts)
          → EndsDigit m (inner_mark m) (token.Word from to ∷ ts)
      by (a_type c h) =
          absurd (typed (begun_in (state_of (lasts text ts)))
          (sym (ap mark_of h ∙ named_mark (named_by (slice_range text from to)) (lasts text ts))
          ∙ e))
      by (plain c h) =
          let p = plain_digit (is_digit (slice_range text from to)) (mark_of (lasts text ts)) m
          (sym (ap mark_of h ∙ plain_marks from (line_ended text from)
          (is_digit (slice_range text from to)) (lasts text ts)) ∙ e) in record {
            from = from;
            to = to;
            rest = ts;
            parts = refl;
            string = ap not c;
            digit = p.0;
            mark = p.1;
          }

  value_digit_is : (m : ℕ) (ts : List IcuToken)
      → mark_of (lasts text ts) ≡ value_digit_mark m → EndsDigit m (value_mark m) ts
  value_digit_is m [] e = absurd (omega (arith, ap mark_number e))
  value_digit_is m (token.Piece n ∷ ts) e =
      absurd (omega (
        arith,
        ap mark_number
            (sym (string_mark n (line_ended text n) (lasts text ts)) ∙ e),
      ))
  value_digit_is m (token.Open n ∷ ts) e =
      absurd (true≢false (sym (open_mark_in n (lasts text ts)) ∙ ap open_in e))
  value_digit_is m (token.Close ∷ ts) e =
      absurd (true≢false (sym (close_mark_in ts) ∙ ap close_in e))
  value_digit_is m (token.Comma ∷ ts) e = absurd (omega (arith, ap mark_number e))
  value_digit_is m (token.Word from to ∷ ts) e = by (word_case text from to (lasts text ts))
    where
      typed : (b : Bool) → (if b then typed_mark else no_mark) ≡ value_digit_mark m → ⊥
      typed true h = omega (arith, ap mark_number h)
      typed false h = omega (arith, ap mark_number h)

      by : WordCase text from to (lasts text ts)
          → EndsDigit m (value_mark m) (token.Word from to ∷ ts)
      by (a_type c h) =
          absurd (typed (begun_in (state_of (lasts text ts)))
          (sym (ap mark_of h ∙ named_mark (named_by (slice_range text from to)) (lasts text ts))
          ∙ e))
      by (plain c h) =
          let p = plain_value (is_digit (slice_range text from to)) (mark_of (lasts text ts)) m
          (sym (ap mark_of h ∙ plain_marks from (line_ended text from)
          (is_digit (slice_range text from to)) (lasts text ts)) ∙ e) in record {
            from = from;
            to = to;
            rest = ts;
            parts = refl;
            string = ap not c;
            digit = p.0;
            mark = p.1;
          }

  -- behind a digit in a group with which another begins
  pub digit_ends : (m : ℕ) (ts : List IcuToken) → lasts text ts ≡ last.Digit m
      → EndsUnquoted text m ts
  digit_ends m ts e =
      let d = digit_is m ts (ap mark_of e) in
      let i = inner_is m d.rest d.mark in
      subst (EndsUnquoted text m)
      (sym (d.parts ∙ ap (λ rs. token.Word d.from d.to ∷ rs) i.parts))
      (first d.from d.to i.rest d.string d.digit i.opening)

  -- behind the `}` of a digit that is the value of a key
  pub valued_ends : (m : ℕ) (ts : List IcuToken) → lasts text ts ≡ last.Valued m
      → EndsUnquoted text m ts
  valued_ends m [] e = absurd (omega (arith, ap mark_number (ap mark_of e)))
  valued_ends m (token.Piece n ∷ ts) e =
      absurd (omega (
        arith,
        ap mark_number
            (sym (string_mark n (line_ended text n) (lasts text ts)) ∙ ap mark_of e),
      ))
  valued_ends m (token.Word from to ∷ ts) e =
      absurd (true≢false (sym (word_mark from to (lasts text ts)) ∙ ap word_in (ap mark_of e)))
  valued_ends m (token.Open n ∷ ts) e =
      absurd (true≢false (sym (open_mark_in n (lasts text ts)) ∙ ap open_in (ap mark_of e)))
  valued_ends m (token.Comma ∷ ts) e =
      absurd (omega (arith, ap mark_number (ap mark_of e)))
  valued_ends m (token.Close ∷ ts) e =
      let c = close_is_valued (mark_of (lasts text ts)) m
      (sym (close_marks (lasts text ts)) ∙ ap mark_of e) in
      let d = value_digit_is m ts c in
      let v = value_is m d.rest d.mark in
      subst (λ rs. EndsUnquoted text m (token.Close ∷ rs))
      (sym (d.parts ∙ ap (λ rs. token.Word d.from d.to ∷ rs) v.parts))
      (behind_key d.from d.to v.rest d.string d.digit v.key)
