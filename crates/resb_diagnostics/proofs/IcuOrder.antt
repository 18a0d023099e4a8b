-- The warnings of a text of ICU's form are told in the order of their places.
use Rattle.std.proofs.Common.{◌≡◌, ◌≢◌, ◌∙◌, ℕ, zero, suc, ◌+◌, ◌<◌, ◌≤◌, Bool, true, false}
use Rattle.std.proofs.Common.{◌==◌, ◌&&◌}
use Rattle.std.proofs.Common.{List, [], ◌∷◌, ◌++◌, refl, sym, ap, subst, arith, ⊎_elim, inl}
use Rattle.std.proofs.Common.{inr, Option, Some, None, Contains, AllPairs}
use Rattle.std.specs.Prelude.{◌⊎◌, not, slice_index, slice_range, if◌then◌else◌}
use Rattle.std.proofs.lemmas.Bool.{cases_lt, false≢true, and_parts}
use Rattle.std.proofs.lemmas.Option.{none-some, same_Some}
use Rattle.std.proofs.lemmas.List.Elements.{Contains-append_cases, Contains-get_or}
use Rattle.std.proofs.lemmas.List.Quantifiers.{all_pairs_push}
use Rattle.resb_grammar.specs.Ascii.{quote, left_brace, right_brace, comma}
use Rattle.resb_diagnostics.specs.Braces.{mode_in, icu_form, has_icu_tokens}
use Rattle.resb_diagnostics.specs.Groups.{named_by}
use Rattle.resb_diagnostics.specs.IcuWarnings.{word_goes_on, is_in_word, icu_word_start}
use Rattle.resb_diagnostics.specs.IcuWarnings.{icu_token_of, icu_token_at, is_behind_colon}
use Rattle.resb_diagnostics.specs.IcuWarnings.{last_named, is_digit, first_joined, behind_string}
use Rattle.resb_diagnostics.specs.IcuWarnings.{behind_plain_word, behind_icu_token, behind_some}
use Rattle.resb_diagnostics.specs.IcuWarnings.{icu_last_at, line_ended, without_sign, is_string}
use Rattle.resb_diagnostics.specs.IcuWarnings.{of_icu_token, of_some_token, and_one, icu_warned}
use Rattle.resb_diagnostics.specs.IcuWarnings.{icu_number}
use Rattle.resb_diagnostics.specs.Warnings.{is_negative, cut}
use Rattle.resb_diagnostics.specs.declared.named.Named.{Named}
use Rattle.resb_diagnostics.specs.declared.named.Named.TheVariants as named
use Rattle.resb_diagnostics.specs.declared.icu_tokens.IcuToken.{IcuToken}
use Rattle.resb_diagnostics.specs.declared.icu_tokens.IcuToken.TheVariants as token
use Rattle.resb_diagnostics.specs.declared.icu_tokens.IcuLast.{IcuLast}
use Rattle.resb_diagnostics.specs.declared.icu_tokens.IcuLast.TheVariants as last
use Rattle.resb_diagnostics.specs.declared.warning.Warning.{Warning}
use Rattle.resb_diagnostics.proofs.RepeatsLemmas.{never, single}
use Rattle.resb_diagnostics.proofs.IcuTokenRuns.{word_token, word_byte}
use Rattle.resb_diagnostics.proofs.IcuCausesLemmas.{TellsFor, a_cut, an_octal, unquoted}
use Rattle.resb_diagnostics.proofs.IcuCausesLemmas.{first_row}
use Rattle.resb_diagnostics.proofs.IcuCausesLemmas.{member_row, tells_for, joined_is, kept_is}

-- where tokens stand

start_low : (text : List ℕ) (n : ℕ) → icu_word_start text n ≤ n
start_low text zero = omega arith
start_low text (suc n) = by (is_in_word text n) (start_low text n)
  where
    by : (b : Bool) → icu_word_start text n ≤ n
        → (if b then icu_word_start text n else suc n) ≤ suc n
    by true h = omega (arith, h)
    by false h = omega arith

-- a word has the bytes from its start on
start_in : (text : List ℕ) (n j : ℕ) → icu_word_start text n ≤ j → j < n
    → is_in_word text j ≡ true
start_in text zero j = λ low high. absurd (omega (arith, high))
start_in text (suc n) j = by (is_in_word text n) refl (start_in text n j)
  where
    by : (b : Bool) → is_in_word text n ≡ b
        → (icu_word_start text n ≤ j → j < n → is_in_word text j ≡ true)
        → (if b then icu_word_start text n else suc n) ≤ j → j < suc n → is_in_word text j ≡ true
    by false e inside low high = absurd (omega (arith, low, high))
    by true e inside low high =
        ⊎_elim (λ (w : j < n). inside low w)
        (λ (w : n ≤ j). let same : j ≡ n = omega (arith, w, high) in ap (is_in_word text) same ∙ e)
        (cases_lt j n)

-- no token stands inside a word
inside_none : (text : List ℕ) (n : ℕ) → is_in_word text n ≡ true → is_in_word text (suc n) ≡ true
    → icu_token_at text n ≡ None
inside_none text n h k = by (icu_form.has_tokens (mode_in icu_form text n))
  where
    goes : word_goes_on text n ≡ true
    goes = (and_parts (has_icu_tokens (mode_in icu_form text n)
        && has_icu_tokens (mode_in icu_form text (suc n))) (word_goes_on text n) h).1

    none : icu_token_of text n (slice_index text n) ≡ None
    none =
        word_token text n (slice_index text n) (word_byte text n goes) h
        ∙ ap (λ w. if not w then Some (token.Word (icu_word_start text n) (n + 1)) else None) k

    by : (b : Bool) → (if b then icu_token_of text n (slice_index text n) else None) ≡ None
    by true = none
    by false = refl

-- where a token begins that stands at a place
abbrev pub begin : ℕ → IcuToken → ℕ
begin n (token.Word from to) = from
begin n _ = n

-- a token at a place
pub data TokenAt (text : List ℕ) (n : ℕ) : IcuToken → Type 0 where
  a_piece : TokenAt text n (token.Piece n)
  a_word : is_in_word text n ≡ true
      → TokenAt text n (token.Word (icu_word_start text n) (n + 1))
  an_open : TokenAt text n (token.Open n)
  a_close : TokenAt text n token.Close
  a_comma : TokenAt text n token.Comma

pub token_is : (text : List ℕ) (n : ℕ) (t : IcuToken) → icu_token_at text n ≡ Some t
    → TokenAt text n t
token_is text n t = by (icu_form.has_tokens (mode_in icu_form text n))
  where
    same : (k : IcuToken) → TokenAt text n k → Some k ≡ Some t → TokenAt text n t
    same k h e = subst (TokenAt text n) (same_Some k t e) h

    of : (q o c m v : Bool) → is_in_word text n ≡ v → (w : Bool)
        → (if q then Some (token.Piece n)
        else (if o then Some (token.Open n)
        else (if c then Some token.Close
        else (if m then Some token.Comma
        else (if v && w then Some (token.Word (icu_word_start text n) (n + 1)) else None)))))
        ≡ Some t
        → TokenAt text n t
    of true o c m v h w e = same (token.Piece n) a_piece e
    of false true c m v h w e = same (token.Open n) an_open e
    of false false true m v h w e = same token.Close a_close e
    of false false false true v h w e = same token.Comma a_comma e
    of false false false false true h true e =
        same (token.Word (icu_word_start text n) (n + 1)) (a_word h) e
    of false false false false true h false e = absurd (none-some t e)
    of false false false false false h w e = absurd (none-some t e)

    by : (b : Bool) → (if b then icu_token_of text n (slice_index text n) else None) ≡ Some t
        → TokenAt text n t
    by false e = absurd (none-some t e)
    by true e =
        of (slice_index text n == quote) (slice_index text n == left_brace)
        (slice_index text n == right_brace) (slice_index text n == comma) (is_in_word text n) refl
        (not (is_in_word text (suc n))) e

pub begin_low : (text : List ℕ) (n : ℕ) (t : IcuToken) → TokenAt text n t → begin n t ≤ n
begin_low text n t a_piece = omega arith
begin_low text n t (a_word h) = start_low text n
begin_low text n t an_open = omega arith
begin_low text n t a_close = omega arith
begin_low text n t a_comma = omega arith

-- tokens that stand before it stand before where it begins
begin_behind : (text : List ℕ) (n : ℕ) (t : IcuToken) → TokenAt text n t → (k : ℕ) (u : IcuToken)
    → k < n → icu_token_at text k ≡ Some u → k < begin n t
begin_behind text n t a_piece k u low e = low
begin_behind text n t (a_word h) k u low e =
    ⊎_elim (λ (w : k < icu_word_start text n). w)
    (λ (w : icu_word_start text n ≤ k).
    absurd (none-some u (sym (inside_none text k (start_in text n k w low) (next w)) ∙ e)))
    (cases_lt k (icu_word_start text n))
  where
    next : icu_word_start text n ≤ k → is_in_word text (suc k) ≡ true
    next w =
        ⊎_elim (λ (i : suc k < n). start_in text n (suc k) (omega (arith, w)) i)
        (λ (i : n ≤ suc k). let same : suc k ≡ n = omega (arith, i, low) in
        ap (is_in_word text) same ∙ h)
        (cases_lt (suc k) n)
begin_behind text n t an_open k u low e = low
begin_behind text n t a_close k u low e = low
begin_behind text n t a_comma k u low e = low

-- the place that a token has for a warning that may come later
abbrev mark : IcuLast → Option ℕ
mark (last.Value m) = Some m
mark (last.ValueDigit m) = Some m
mark (last.Valued m) = Some m
mark (last.Inner m) = Some m
mark (last.Digit m) = Some m
mark (last.First joined) = joined
mark (last.Member joined) = joined
mark _ = None

-- a place that is marked was so before, or is where a token begins
abbrev IsMarked : IcuLast → ℕ → ℕ → Type 0
IsMarked l b m = (mark l ≡ Some m) ⊎ (m ≡ b)

joined_mark : (joined : Option ℕ) (ended : Bool) (n m : ℕ) → first_joined joined ended n ≡ Some m
    → (joined ≡ Some m) ⊎ (m ≡ n)
joined_mark (Some j) ended n m e = inl e
joined_mark None true n m e = inr (sym (same_Some n m e))
joined_mark None false n m e = absurd (none-some m e)

string_mark : (n : ℕ) (ended : Bool) (l : IcuLast) (m : ℕ)
    → mark (behind_string n ended l) ≡ Some m → IsMarked l n m
string_mark n ended last.Start m e = absurd (none-some m e)
string_mark n ended (last.First joined) m e = joined_mark joined ended n m e
string_mark n ended (last.Member joined) m e = joined_mark joined ended n m e
string_mark n ended last.Key m e =
    ⊎_elim (λ (w : None ≡ Some m). inl w) (λ (w : m ≡ n). inr w) (joined_mark None ended n m e)
string_mark n ended (last.Digit j) m e =
    ⊎_elim (λ (w : None ≡ Some m). absurd (none-some m w)) (λ (w : m ≡ n). inr w)
    (joined_mark None ended n m e)
string_mark n ended (last.ValueDigit j) m e =
    ⊎_elim (λ (w : None ≡ Some m). absurd (none-some m w)) (λ (w : m ≡ n). inr w)
    (joined_mark None ended n m e)
string_mark n ended last.Open m e = absurd (none-some m e)
string_mark n ended last.Typed m e = absurd (none-some m e)
string_mark n ended (last.Inner j) m e = absurd (none-some m e)
string_mark n ended (last.Value j) m e = absurd (none-some m e)
string_mark n ended _ m e = absurd (none-some m e)

plain_mark : (n : ℕ) (ended d : Bool) (l : IcuLast) (m : ℕ)
    → mark (behind_plain_word n ended d l) ≡ Some m → IsMarked l n m
plain_mark n ended true (last.Inner j) m e = inl e
plain_mark n ended true (last.Value j) m e = inl e
plain_mark n ended false (last.Inner j) m e = absurd (none-some m e)
plain_mark n ended false (last.Value j) m e = absurd (none-some m e)
plain_mark n ended true last.Open m e = absurd (none-some m e)
plain_mark n ended false last.Open m e = absurd (none-some m e)
plain_mark n ended true l m e = string_mark n ended l m e
plain_mark n ended false l m e = string_mark n ended l m e

named_mark : (x : Named) (l : IcuLast) → mark (last_named x l) ≡ None
named_mark x last.Start = refl
named_mark named.Integer _ = refl
named_mark named.Array _ = refl
named_mark _ _ = refl

word_mark : (text : List ℕ) (from to : ℕ) (l : IcuLast) (m : ℕ)
    → mark (behind_icu_token text (token.Word from to) l) ≡ Some m → IsMarked l from m
word_mark text from to l m = by (is_behind_colon text from)
  where
    by : (b : Bool)
        → mark (if b then last_named (named_by (slice_range text from to)) l
        else behind_plain_word from (line_ended text from) (is_digit (slice_range text from to)) l)
        ≡ Some m
        → IsMarked l from m
    by true e =
        absurd (none-some m (sym (named_mark (named_by (slice_range text from to)) l) ∙ e))
    by false e =
        plain_mark from (line_ended text from) (is_digit (slice_range text from to)) l m e

open_mark : (text : List ℕ) (n : ℕ) (l : IcuLast) (m : ℕ)
    → mark (behind_icu_token text (token.Open n) l) ≡ Some m → m ≡ n
open_mark text n last.Open m e = sym (same_Some n m e)
open_mark text n last.Typed m e = sym (same_Some n m e)
open_mark text n (last.Inner j) m e = sym (same_Some n m e)
open_mark text n (last.Value j) m e = sym (same_Some n m e)
open_mark text n last.Key m e = sym (same_Some n m e)
open_mark text n _ m e = absurd (none-some m e)

close_mark : (text : List ℕ) (l : IcuLast) (m : ℕ)
    → mark (behind_icu_token text token.Close l) ≡ Some m → mark l ≡ Some m
close_mark text (last.ValueDigit j) m e = e
close_mark text _ m e = absurd (none-some m e)

-- what is marked behind a token
new_mark : (text : List ℕ) (n : ℕ) (t : IcuToken) (l : IcuLast) (m : ℕ) → TokenAt text n t
    → mark (behind_icu_token text t l) ≡ Some m → IsMarked l (begin n t) m
new_mark text n t l m a_piece e = string_mark n (line_ended text n) l m e
new_mark text n t l m (a_word h) e = word_mark text (icu_word_start text n) (n + 1) l m e
new_mark text n t l m an_open e = inr (open_mark text n l m e)
new_mark text n t l m a_close e = inl (close_mark text l m e)
new_mark text n t l m a_comma e = absurd (none-some m e)

-- what is told at a token has a place that was marked, or is where the token begins, and nothing is
-- marked behind it
record Tells (text : List ℕ) (n : ℕ) (t : IcuToken) (l : IcuLast) (w : Warning) : Type 0 where
  pub place : IsMarked l (begin n t) w.place
  pub no_mark : mark (behind_icu_token text t l) ≡ None

integer_mark : (text : List ℕ) (from to : ℕ)
    → mark (behind_icu_token text (token.Word from to) last.Integer) ≡ None
integer_mark text from to =
    by (is_behind_colon text from) (is_digit (slice_range text from to))
  where
    by : (b d : Bool)
        → mark (if b then last_named (named_by (slice_range text from to)) last.Integer
        else behind_plain_word from (line_ended text from) d last.Integer)
        ≡ None
    by true d = named_mark (named_by (slice_range text from to)) last.Integer
    by false true = refl
    by false false = refl

member_mark : (text : List ℕ) (t : IcuToken) (joined : Option ℕ) → is_string text t ≡ false
    → mark (behind_icu_token text t (last.Member joined)) ≡ None
member_mark text (token.Piece n) joined h = absurd (false≢true (sym h))
member_mark text (token.Word from to) joined h = by (is_behind_colon text from) h
  where
    by : (b : Bool) → not b ≡ false
        → mark (if b then last_named (named_by (slice_range text from to)) (last.Member joined)
        else behind_plain_word from (line_ended text from) (is_digit (slice_range text from to))
        (last.Member joined))
        ≡ None
    by true e = named_mark (named_by (slice_range text from to)) (last.Member joined)
    by false e = absurd (false≢true (sym e))
member_mark text (token.Open n) joined h = refl
member_mark text token.Close joined h = refl
member_mark text token.Comma joined h = refl

tells : (text : List ℕ) (n : ℕ) (t : IcuToken) (l : IcuLast) (w : Warning)
    → TellsFor text t l w → Tells text n t l w
tells text n t l w (a_cut from to e f p o) =
    let z = kept_is from (cut (is_negative (slice_range text from to))
    (icu_number (without_sign (slice_range text from to)))) w o in record {
      place = inr (ap (λ v. v.place) z.2 ∙ sym (ap (begin n) e));
      no_mark = (λ i. mark (behind_icu_token text (e i) (f i))) ∙ integer_mark text from to;
    }
tells text n t l w (an_octal from to e f p i) = record {
  place = inr (ap (λ v. v.place) i ∙ sym (ap (begin n) e));
  no_mark = (λ j. mark (behind_icu_token text (e j) (f j))) ∙ integer_mark text from to;
}
tells text n t l w (unquoted m e (inl f) o) = record {
  place = inl (ap mark f ∙ ap Some (sym (ap (λ v. v.place) o)));
  no_mark = (λ i. mark (behind_icu_token text (e i) (f i)));
}
tells text n t l w (unquoted m e (inr f) o) = record {
  place = inl (ap mark f ∙ ap Some (sym (ap (λ v. v.place) o)));
  no_mark = (λ i. mark (behind_icu_token text (e i) (f i)));
}
tells text n t l w (first_row joined e f o) =
    let m = joined_is joined w o in record {
      place = inl (ap mark f ∙ m.1 ∙ ap Some (sym (ap (λ v. v.place) m.2)));
      no_mark = (λ i. mark (behind_icu_token text (e i) (f i)));
    }
tells text n t l w (member_row joined e f o) =
    let m = joined_is joined w o in record {
      place = inl (ap mark f ∙ m.1 ∙ ap Some (sym (ap (λ v. v.place) m.2)));
      no_mark = ap (λ k. mark (behind_icu_token text t k)) f ∙ member_mark text t joined e;
    }

-- a token stands before a place, at this one or behind it
pub record IsUpTo (text : List ℕ) (n place : ℕ) : Type 0 where
  pub at : ℕ
  pub before : at < n
  pub one : IcuToken
  pub stands : icu_token_at text at ≡ Some one
  pub low : place ≤ at

-- what was told so far, where this was the last token
record Ordered (text : List ℕ) (n : ℕ) (ws : List Warning) (l : IcuLast) : Type 0 where
  pub told : (w : Warning) → Contains ws w → IsUpTo text n w.place
  pub marked : (m : ℕ) → mark l ≡ Some m
      → (m < n) × ((w : Warning) → Contains ws w → w.place < m)
  pub pairs : AllPairs (λ v w. v.place < w.place) ws

pub up_to_next : (text : List ℕ) (n place : ℕ) → IsUpTo text n place → IsUpTo text (suc n) place
up_to_next text n place h = record {
  at = h.at;
  before = let low = h.before in omega (arith, low);
  one = h.one;
  stands = h.stands;
  low = h.low;
}

-- what was told is before where a token begins
pub before_token : (text : List ℕ) (n place : ℕ) (t : IcuToken) → TokenAt text n t
    → IsUpTo text n place → place < begin n t
before_token text n place t k h =
    let far = begin_behind text n t k h.at h.one h.before h.stands in
    let low = h.low in omega (arith, far, low)

nothing_told : (text : List ℕ) (n : ℕ) (ws : List Warning) (l : IcuLast) (t : IcuToken)
    → icu_token_at text n ≡ Some t → Ordered text n ws l
    → Ordered text (suc n) ws (behind_icu_token text t l)
nothing_told text n ws l t e h = record {
  told = λ w c. up_to_next text n w.place (h.told w c);
  marked = λ m f. by m (new_mark text n t l m k f);
  pairs = h.pairs;
}
  where
    k : TokenAt text n t
    k = token_is text n t e

    by : (m : ℕ) → IsMarked l (begin n t) m
        → (m < suc n) × ((w : Warning) → Contains ws w → w.place < m)
    by m (inl f) = let r = h.marked m f in (omega (arith, r.0), r.1)
    by m (inr f) = let low = begin_low text n t k in (
      omega (arith, f, low),
      λ w c. (let r = before_token text n w.place t k (h.told w c) in omega (arith, r, f)),
    )

one_told : (text : List ℕ) (n : ℕ) (ws : List Warning) (l : IcuLast) (t : IcuToken) (w : Warning)
    → icu_token_at text n ≡ Some t → Tells text n t l w → Ordered text n ws l
    → Ordered text (suc n) (ws ++ w ∷ []) (behind_icu_token text t l)
one_told text n ws l t w e d h = record {
  told = λ v c. ⊎_elim (λ (i : Contains ws v). up_to_next text n v.place (h.told v i))
      (λ (i : Contains (w ∷ []) v). record {
        at = n;
        before = omega arith;
        one = t;
        stands = e;
        low = let same = ap (λ u. u.place) (single w v i) in omega (arith, same, here.0);
      })
      (Contains-append_cases ws (w ∷ []) v c);
  marked = λ m f. absurd (none-some m (sym d.no_mark ∙ f));
  pairs = all_pairs_push (λ v u. v.place < u.place) ws w h.pairs
      (λ i v low. here.1 _ (Contains-get_or ws i v low));
}
  where
    k : TokenAt text n t
    k = token_is text n t e

    by : IsMarked l (begin n t) w.place
        → (w.place ≤ n) × ((v : Warning) → Contains ws v → v.place < w.place)
    by (inl f) = let r = h.marked w.place f in (omega (arith, r.0), r.1)
    by (inr f) = let low = begin_low text n t k in (
      omega (arith, f, low),
      λ v c. (let r = before_token text n v.place t k (h.told v c) in omega (arith, r, f)),
    )

    here : (w.place ≤ n) × ((v : Warning) → Contains ws v → v.place < w.place)
    here = by d.place

step : (text : List ℕ) (n : ℕ) (ws : List Warning) (l : IcuLast) (o : Option IcuToken)
    → icu_token_at text n ≡ o → Ordered text n ws l
    → Ordered text (suc n) (and_one ws (of_some_token text o l)) (behind_some text o l)
step text n ws l None e h = record {
  told = λ w c. up_to_next text n w.place (h.told w c);
  marked = λ m f. (let r = h.marked m f in (omega (arith, r.0), r.1));
  pairs = h.pairs;
}
step text n ws l (Some t) e h = by (of_icu_token text t l) refl
  where
    by : (r : Option Warning) → of_icu_token text t l ≡ r
        → Ordered text (suc n) (and_one ws r) (behind_icu_token text t l)
    by None f = nothing_told text n ws l t e h
    by (Some w) f = one_told text n ws l t w e (tells text n t l w (tells_for text t l w f)) h

ordered : (text : List ℕ) (n : ℕ) → Ordered text n (icu_warned text n) (icu_last_at text n)
ordered text zero = record {
  told = λ w c. absurd (never w c);
  marked = λ m e. absurd (none-some m e);
  pairs = λ i j d low high. absurd (omega (arith, high));
}
ordered text (suc n) =
    step text n (icu_warned text n) (icu_last_at text n) (icu_token_at text n) refl
    (ordered text n)

pub icu_in_order : (text : List ℕ) (n : ℕ)
    → AllPairs (λ v w. v.place < w.place) (icu_warned text n)
icu_in_order text n = (ordered text n).pairs

pub icu_once : (text : List ℕ) (n : ℕ) → AllPairs (λ v w. v ≢ w) (icu_warned text n)
icu_once text n = λ i j d low high e.
    (let r = icu_in_order text n i j d low high in
    omega (arith, r, ap (λ v. v.place) e))
