-- Groups of one digit without quotes are told where they are due, and nowhere else.
use Rattle.std.proofs.Common.{◌≡◌, ◌∙◌, ℕ, zero, suc, Bool, true, false, ◌&&◌, ◌||◌}
use Rattle.std.proofs.Common.{List, [], ◌∷◌, refl, sym, ap, Option, Some, None, inl, inr}
use Rattle.std.specs.Prelude.{slice_range, not, if◌then◌else◌, ◌⊎◌}
use Rattle.std.proofs.lemmas.Bool.{false≢true}
use Rattle.resb_diagnostics.specs.Groups.{named_by}
use Rattle.resb_diagnostics.specs.Warnings.{is_nothing}
use Rattle.resb_diagnostics.specs.IcuWarnings.{icu_token_at, is_behind_colon, is_string, line_ended}
use Rattle.resb_diagnostics.specs.IcuWarnings.{is_digit, behind_icu_token, behind_icu_word}
use Rattle.resb_diagnostics.specs.IcuWarnings.{behind_some, behind_open, behind_close, icu_last_at}
use Rattle.resb_diagnostics.specs.IcuWarnings.{last_named, behind_plain_word}
use Rattle.resb_diagnostics.specs.IcuCauses.{type_of, is_integer_or_array, with_token}
use Rattle.resb_diagnostics.specs.IcuCauses.{tokens_before}
use Rattle.resb_diagnostics.specs.IcuCauses.{has_sign, last_type, ends_opening, ends_in_key}
use Rattle.resb_diagnostics.specs.IcuCauses.{EndsUnquoted, first, behind_key}
use Rattle.resb_diagnostics.specs.declared.named.Named.TheVariants as named
use Rattle.resb_diagnostics.specs.declared.icu_tokens.IcuToken.{IcuToken}
use Rattle.resb_diagnostics.specs.declared.icu_tokens.IcuToken.TheVariants as token
use Rattle.resb_diagnostics.specs.declared.icu_tokens.IcuLast.{IcuLast}
use Rattle.resb_diagnostics.specs.declared.icu_tokens.IcuLast.TheVariants as last
use Rattle.resb_diagnostics.proofs.IcuStateLemmas.{state_of, type_on}
use Rattle.resb_diagnostics.proofs.IcuStateLemmas.{string_state, plain_state, named_state}
use Rattle.resb_diagnostics.proofs.IcuStateLemmas.{open_state, close_state}
use Rattle.resb_diagnostics.proofs.IcuMarks.{mark_of}
use Rattle.resb_diagnostics.proofs.IcuMarks.{begun_in, group_in, list_in, typed_in, key_in}
use Rattle.resb_diagnostics.proofs.IcuMarks.{opening_in, plain_mark}
use Rattle.resb_diagnostics.proofs.IcuMarks.{string_mark, plain_marks, named_mark, open_marks}
use Rattle.resb_diagnostics.proofs.IcuMarks.{close_marks, open_inner, key_last, string_begun}
use Rattle.resb_diagnostics.proofs.IcuMarks.{string_group, string_list, type_begun, type_group}
use Rattle.resb_diagnostics.proofs.IcuMarks.{type_list, open_begun, open_list, open_group}
use Rattle.resb_diagnostics.proofs.IcuMarks.{plain_typed, plain_opening, no_key, close_typed}
use Rattle.resb_diagnostics.proofs.IcuMarks.{close_key, close_opening, open_typed, open_key}
use Rattle.resb_diagnostics.proofs.IcuMarks.{word_key}
use Rattle.resb_diagnostics.proofs.IcuMarks.{named_something, and_false, and_true, if_typed}
use Rattle.resb_diagnostics.proofs.IcuMarks.{if_opening, if_key, and_not}

-- the last of tokens
abbrev pub lasts : List ℕ → List IcuToken → IcuLast
lasts text [] = last.Start
lasts text (t ∷ ts) = behind_icu_token text t (lasts text ts)

pub lasts_at : (text : List ℕ) (n : ℕ) → icu_last_at text n ≡ lasts text (tokens_before text n)
lasts_at text zero = refl
lasts_at text (suc n) =
    ap (behind_some text (icu_token_at text n)) (lasts_at text n)
    ∙ by (icu_token_at text n)
  where
    by : (o : Option IcuToken) → behind_some text o (lasts text (tokens_before text n))
        ≡ lasts text (with_token o (tokens_before text n))
    by None = refl
    by (Some t) = refl

-- what a word leads to: a type, or a word of a string
pub data WordCase (text : List ℕ) (from to : ℕ) (l : IcuLast) : Type 0 where
  a_type : is_behind_colon text from ≡ true
      → behind_icu_word text from to l ≡ last_named (named_by (slice_range text from to)) l
      → WordCase text from to l
  plain : is_behind_colon text from ≡ false
      → behind_icu_word text from to l
      ≡ behind_plain_word from (line_ended text from) (is_digit (slice_range text from to)) l
      → WordCase text from to l

pub word_case : (text : List ℕ) (from to : ℕ) (l : IcuLast) → WordCase text from to l
word_case text from to l = by (is_behind_colon text from) refl
  where
    by : (b : Bool) → is_behind_colon text from ≡ b → WordCase text from to l
    by true e = a_type e
        (ap (λ b. if b then last_named (named_by (slice_range text from to)) l
        else behind_plain_word from (line_ended text from)
        (is_digit (slice_range text from to)) l) e)
    by false e = plain e
        (ap (λ b. if b then last_named (named_by (slice_range text from to)) l
        else behind_plain_word from (line_ended text from)
        (is_digit (slice_range text from to)) l) e)

module _ (text : List ℕ) where
  -- a `{`, a `}` or a comma is among tokens where a group has begun
  signs : (ts : List IcuToken) → has_sign ts ≡ begun_in (state_of (lasts text ts))
  signs [] = refl
  signs (token.Piece n ∷ ts) =
      let l = lasts text ts in
      signs ts ∙ sym (ap begun_in (string_state n (line_ended text n) l)
      ∙ string_begun (state_of l) (line_ended text n) n)
  signs (token.Word from to ∷ ts) = signs ts ∙ by (word_case text from to (lasts text ts))
    where
      l : IcuLast
      l = lasts text ts

      by : WordCase text from to (lasts text ts) → begun_in (state_of (lasts text ts))
          ≡ begun_in (state_of (behind_icu_word text from to (lasts text ts)))
      by (a_type c e) =
          sym (ap (λ k. begun_in (state_of k)) e
          ∙ ap begun_in (named_state (named_by (slice_range text from to)) (lasts text ts))
          ∙ type_begun (named_by (slice_range text from to)) (state_of (lasts text ts)))
      by (plain c e) =
          sym (ap (λ k. begun_in (state_of k)) e
          ∙ ap begun_in (plain_state from (line_ended text from)
          (is_digit (slice_range text from to)) (lasts text ts))
          ∙ string_begun (state_of (lasts text ts)) (line_ended text from) from)
  signs (token.Open n ∷ ts) =
      sym (ap begun_in (open_state n (lasts text ts)) ∙ open_begun (state_of (lasts text ts)))
  signs (token.Close ∷ ts) = sym (ap begun_in (close_state (lasts text ts)))
  signs (token.Comma ∷ ts) = refl

  -- the last token is a type
  types : (ts : List IcuToken)
      → (begun_in (state_of (lasts text ts)) && not (is_nothing (last_type text ts)))
      ≡ typed_in (mark_of (lasts text ts))
  types [] = refl
  types (token.Piece n ∷ ts) =
      and_false (begun_in (state_of (lasts text (token.Piece n ∷ ts))))
      ∙ sym (ap typed_in (string_mark n (line_ended text n) (lasts text ts)))
  types (token.Word from to ∷ ts) = by (word_case text from to (lasts text ts))
    where
      by : WordCase text from to (lasts text ts)
          → (begun_in (state_of (behind_icu_word text from to (lasts text ts)))
          && not (is_nothing (type_of text (Some (token.Word from to)))))
          ≡ typed_in (mark_of (behind_icu_word text from to (lasts text ts)))
      by (a_type c e) =
          let l = lasts text ts in
          let t = named_by (slice_range text from to) in
          ap (λ k. begun_in (state_of k)
          && not (is_nothing (type_of text (Some (token.Word from to))))) e
          ∙ ap (λ b. begun_in (state_of (last_named t l))
          && not (is_nothing (if b then t else named.Nothing))) c
          ∙ ap (λ b. begun_in (state_of (last_named t l)) && not b)
          (named_something (slice_range text from to))
          ∙ and_true (begun_in (state_of (last_named t l)))
          ∙ ap begun_in (named_state t l) ∙ type_begun t (state_of l)
          ∙ sym (ap (λ k. typed_in (mark_of k)) e ∙ ap typed_in (named_mark t l)
          ∙ if_typed (begun_in (state_of l)))
      by (plain c e) =
          let l = lasts text ts in
          ap (λ b. begun_in (state_of (behind_icu_word text from to l))
          && not (is_nothing (if b then named_by (slice_range text from to)
          else named.Nothing))) c
          ∙ and_false (begun_in (state_of (behind_icu_word text from to l)))
          ∙ sym (ap (λ k. typed_in (mark_of k)) e
          ∙ ap typed_in (plain_marks from (line_ended text from)
          (is_digit (slice_range text from to)) l)
          ∙ plain_typed (is_digit (slice_range text from to)) (mark_of l))
  types (token.Open n ∷ ts) =
      let l = lasts text ts in
      and_false (begun_in (state_of (behind_open n l)))
      ∙ sym (ap typed_in (open_marks n l)
      ∙ open_typed n (begun_in (state_of l)) (typed_in (mark_of l)) (group_in (state_of l))
      (key_in (mark_of l)))
  types (token.Close ∷ ts) =
      let l = lasts text ts in
      and_false (begun_in (state_of (behind_close l)))
      ∙ sym (ap typed_in (close_marks l) ∙ close_typed (mark_of l))
  types (token.Comma ∷ ts) = refl

  -- the last token is the type of a list
  lists : (ts : List IcuToken)
      → (begun_in (state_of (lasts text ts)) && is_integer_or_array (last_type text ts))
      ≡ list_in (state_of (lasts text ts))
  lists [] = refl
  lists (token.Piece n ∷ ts) =
      let l = lasts text ts in
      and_false (begun_in (state_of (lasts text (token.Piece n ∷ ts))))
      ∙ sym (ap list_in (string_state n (line_ended text n) l)
      ∙ string_list (state_of l) (line_ended text n) n)
  lists (token.Word from to ∷ ts) = by (word_case text from to (lasts text ts))
    where
      by : WordCase text from to (lasts text ts)
          → (begun_in (state_of (behind_icu_word text from to (lasts text ts)))
          && is_integer_or_array (type_of text (Some (token.Word from to))))
          ≡ list_in (state_of (behind_icu_word text from to (lasts text ts)))
      by (a_type c e) =
          let l = lasts text ts in
          let t = named_by (slice_range text from to) in
          let s : state_of (behind_icu_word text from to l) ≡ type_on t (state_of l) =
          ap state_of e ∙ named_state t l in
          ap (λ b. begun_in (state_of (behind_icu_word text from to l))
          && is_integer_or_array (if b then t else named.Nothing)) c
          ∙ ap (λ k. begun_in k && is_integer_or_array t) s ∙ type_list t (state_of l)
          ∙ sym (ap list_in s)
      by (plain c e) =
          let l = lasts text ts in
          ap (λ b. begun_in (state_of (behind_icu_word text from to l))
          && is_integer_or_array (if b then named_by (slice_range text from to)
          else named.Nothing)) c
          ∙ and_false (begun_in (state_of (behind_icu_word text from to l)))
          ∙ sym (ap (λ k. list_in (state_of k)) e
          ∙ ap list_in (plain_state from (line_ended text from)
          (is_digit (slice_range text from to)) l)
          ∙ string_list (state_of l) (line_ended text from) from)
  lists (token.Open n ∷ ts) =
      let l = lasts text ts in
      and_false (begun_in (state_of (behind_open n l)))
      ∙ sym (ap list_in (open_state n l) ∙ open_list (state_of l))
  lists (token.Close ∷ ts) =
      let l = lasts text ts in
      and_false (begun_in (state_of (behind_close l)))
      ∙ sym (ap list_in (close_state l))
  lists (token.Comma ∷ ts) = refl

  -- the last token is the `{` of a group
  pub openings : (ts : List IcuToken) → ends_opening text ts ≡ group_in (state_of (lasts text ts))
  openings [] = refl
  openings (token.Piece n ∷ ts) =
      let l = lasts text ts in
      sym (ap group_in (string_state n (line_ended text n) l)
      ∙ string_group (state_of l) (line_ended text n) n)
  openings (token.Word from to ∷ ts) = by (word_case text from to (lasts text ts))
    where
      by : WordCase text from to (lasts text ts)
          → false ≡ group_in (state_of (behind_icu_word text from to (lasts text ts)))
      by (a_type c e) =
          let l = lasts text ts in
          let t = named_by (slice_range text from to) in
          sym (ap (λ k. group_in (state_of k)) e ∙ ap group_in (named_state t l)
          ∙ type_group t (state_of l))
      by (plain c e) =
          let l = lasts text ts in
          sym (ap (λ k. group_in (state_of k)) e
          ∙ ap group_in (plain_state from (line_ended text from)
          (is_digit (slice_range text from to)) l)
          ∙ string_group (state_of l) (line_ended text from) from)
  openings (token.Open n ∷ ts) =
      let l = lasts text ts in
      ap (λ b. b && not (is_integer_or_array (last_type text ts))) (signs ts)
      ∙ open_group (state_of l) (is_integer_or_array (last_type text ts)) (lists ts)
      ∙ sym (ap group_in (open_state n l))
  openings (token.Close ∷ ts) = sym (ap group_in (close_state (lasts text ts)))
  openings (token.Comma ∷ ts) = refl

  -- a word behind anything but a `{` is no key
  word_no_key : (from to : ℕ) (l : IcuLast) → opening_in (mark_of l) ≡ false
      → false ≡ key_in (mark_of (behind_icu_word text from to l))
  word_no_key from to l h = by (word_case text from to l)
    where
      by : WordCase text from to l
          → false ≡ key_in (mark_of (behind_icu_word text from to l))
      by (a_type c e) =
          sym (ap (λ k. key_in (mark_of k)) e
          ∙ ap key_in (named_mark (named_by (slice_range text from to)) l)
          ∙ if_key (begun_in (state_of l)))
      by (plain c e) =
          sym (ap (λ k. key_in (mark_of k)) e
          ∙ ap key_in (plain_marks from (line_ended text from)
          (is_digit (slice_range text from to)) l)
          ∙ no_key (is_digit (slice_range text from to)) (mark_of l) h)

  word_no_opening : (from to : ℕ) (l : IcuLast)
      → opening_in (mark_of (behind_icu_word text from to l)) ≡ false
  word_no_opening from to l = by (word_case text from to l)
    where
      by : WordCase text from to l
          → opening_in (mark_of (behind_icu_word text from to l)) ≡ false
      by (a_type c e) =
          ap (λ k. opening_in (mark_of k)) e
          ∙ ap opening_in (named_mark (named_by (slice_range text from to)) l)
          ∙ if_opening (begun_in (state_of l))
      by (plain c e) =
          ap (λ k. opening_in (mark_of k)) e
          ∙ ap opening_in (plain_marks from (line_ended text from)
          (is_digit (slice_range text from to)) l)
          ∙ plain_opening (is_digit (slice_range text from to)) (mark_of l)

  -- a word behind a `{`
  key_behind : (from to n : ℕ) (ts : List IcuToken)
      → ends_in_key text ts ≡ key_in (mark_of (lasts text ts))
      → ends_in_key text (token.Word from to ∷ token.Open n ∷ ts)
      ≡ key_in (mark_of (behind_icu_word text from to (behind_open n (lasts text ts))))
  key_behind from to n ts k = by (word_case text from to (behind_open n (lasts text ts)))
    where
      l : IcuLast
      l = lasts text ts

      by : WordCase text from to (behind_open n (lasts text ts))
          → ((not (is_behind_colon text from)
          && (has_sign ts && is_nothing (last_type text ts)))
          && (not (is_digit (slice_range text from to))
          || not (ends_opening text ts || ends_in_key text ts)))
          ≡ key_in (mark_of (behind_icu_word text from to (behind_open n (lasts text ts))))
      by (a_type c e) =
          ap (λ b. (not b && (has_sign ts && is_nothing (last_type text ts)))
          && (not (is_digit (slice_range text from to))
          || not (ends_opening text ts || ends_in_key text ts))) c
          ∙ sym (ap (λ i. key_in (mark_of i)) e
          ∙ ap key_in (named_mark (named_by (slice_range text from to))
          (behind_open n (lasts text ts)))
          ∙ if_key (begun_in (state_of (behind_open n (lasts text ts)))))
      by (plain c e) =
          let m = lasts text ts in
          let d = is_digit (slice_range text from to) in
          let z = is_nothing (last_type text ts) in
          ap (λ b. (not b && (has_sign ts && z))
          && (not d || not (ends_opening text ts || ends_in_key text ts))) c
          ∙ ap (λ b. (true && (b && z))
          && (not d || not (ends_opening text ts || ends_in_key text ts))) (signs ts)
          ∙ ap (λ b. (true && b)
          && (not d || not (ends_opening text ts || ends_in_key text ts)))
          (and_not (begun_in (state_of m)) z (typed_in (mark_of m)) (types ts))
          ∙ ap (λ b. (true && (begun_in (state_of m) && not (typed_in (mark_of m))))
          && (not d || not (b || ends_in_key text ts))) (openings ts)
          ∙ ap (λ b. (true && (begun_in (state_of m) && not (typed_in (mark_of m))))
          && (not d || not (group_in (state_of m) || b))) k
          ∙ sym (ap (λ i. key_in (mark_of i)) e
          ∙ ap key_in (plain_marks from (line_ended text from) d (behind_open n m))
          ∙ ap (λ i. key_in (plain_mark d i)) (open_marks n m)
          ∙ word_key n d (begun_in (state_of m)) (typed_in (mark_of m)) (group_in (state_of m))
          (key_in (mark_of m)))

  -- the last token is a key
  pub keys : (ts : List IcuToken) → ends_in_key text ts ≡ key_in (mark_of (lasts text ts))
  keys [] = refl
  keys (token.Piece n ∷ ts) =
      sym (ap key_in (string_mark n (line_ended text n) (lasts text ts)))
  keys (token.Open n ∷ ts) =
      let l = lasts text ts in
      sym (ap key_in (open_marks n l)
      ∙ open_key n (begun_in (state_of l)) (typed_in (mark_of l)) (group_in (state_of l))
      (key_in (mark_of l)))
  keys (token.Close ∷ ts) =
      sym (ap key_in (close_marks (lasts text ts)) ∙ close_key (mark_of (lasts text ts)))
  keys (token.Comma ∷ ts) = refl
  keys (token.Word from to ∷ []) = word_no_key from to last.Start refl
  keys (token.Word from to ∷ token.Piece n ∷ ts) =
      word_no_key from to (lasts text (token.Piece n ∷ ts))
      (ap opening_in (string_mark n (line_ended text n) (lasts text ts)))
  keys (token.Word from to ∷ token.Word i j ∷ ts) =
      word_no_key from to (lasts text (token.Word i j ∷ ts))
      (word_no_opening i j (lasts text ts))
  keys (token.Word from to ∷ token.Close ∷ ts) =
      word_no_key from to (lasts text (token.Close ∷ ts))
      (ap opening_in (close_marks (lasts text ts)) ∙ close_opening (mark_of (lasts text ts)))
  keys (token.Word from to ∷ token.Comma ∷ ts) = word_no_key from to last.Other refl
  keys (token.Word from to ∷ token.Open n ∷ ts) = key_behind from to n ts (keys ts)

  -- behind a digit that stands first in such a group
  digit_word : (from to m : ℕ) (l : IcuLast) → is_string text (token.Word from to) ≡ true
      → is_digit (slice_range text from to) ≡ true
      → behind_icu_word text from to l
      ≡ behind_plain_word from (line_ended text from) true l
  digit_word from to m l s d = by (word_case text from to l)
    where
      by : WordCase text from to l → behind_icu_word text from to l
          ≡ behind_plain_word from (line_ended text from) true l
      by (a_type c e) = absurd (false≢true (sym (ap not c) ∙ s))
      by (plain c e) =
          e ∙ ap (λ b. behind_plain_word from (line_ended text from) b l) d

  -- what ends so leads to the last token that a `}` is told behind
  pub ends_so : (place : ℕ) (ts : List IcuToken) → EndsUnquoted text place ts
      → (lasts text ts ≡ last.Digit place) ⊎ (lasts text ts ≡ last.Valued place)
  ends_so place ts (first from to rest s d o) =
      let g = sym (openings rest) ∙ o in
      inl (digit_word from to place (behind_open place (lasts text rest)) s d
      ∙ ap (behind_plain_word from (line_ended text from) true)
      (open_inner place (lasts text rest) g))
  ends_so place ts (behind_key from to rest s d o) =
      let k = key_last (lasts text rest) (sym (keys rest) ∙ o) in
      inr (ap behind_close (digit_word from to place (behind_open place (lasts text rest)) s d
      ∙ ap (λ l. behind_plain_word from (line_ended text from) true (behind_open place l)) k))
