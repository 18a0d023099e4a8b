-- The last token of a text of ICU's form as one of few states, and what each token leads to.
use Rattle.std.proofs.Common.{◌≡◌, ◌∙◌, ℕ, suc, ◌<◌, ◌≤◌, Bool, true, false, List}
use Rattle.std.proofs.Common.{refl, sym, ap, subst, arith, ⊎_elim, Option, Some, None}
use Rattle.std.specs.Prelude.{slice_range, not, if◌then◌else◌}
use Rattle.std.proofs.lemmas.Bool.{cases_lt, false≢true}
use Rattle.std.proofs.lemmas.Option.{none-some}
use Rattle.resb_diagnostics.specs.Groups.{named_by}
use Rattle.resb_diagnostics.specs.Items.{IsRightBefore}
use Rattle.resb_diagnostics.specs.IcuWarnings.{is_behind_colon, is_string, line_ended}
use Rattle.resb_diagnostics.specs.IcuWarnings.{first_joined, is_digit, behind_string, behind_open}
use Rattle.resb_diagnostics.specs.IcuWarnings.{behind_plain_word, last_named, behind_icu_token}
use Rattle.resb_diagnostics.specs.IcuWarnings.{behind_close}
use Rattle.resb_diagnostics.specs.IcuCauses.{is_sign, start_of, type_of, is_integer_or_array}
use Rattle.resb_diagnostics.specs.declared.named.Named.{Named}
use Rattle.resb_diagnostics.specs.declared.named.Named.TheVariants as named
use Rattle.resb_diagnostics.specs.declared.icu_tokens.IcuToken.{IcuToken}
use Rattle.resb_diagnostics.specs.declared.icu_tokens.IcuToken.TheVariants as token
use Rattle.resb_diagnostics.specs.declared.icu_tokens.IcuLast.{IcuLast}
use Rattle.resb_diagnostics.specs.declared.icu_tokens.IcuLast.TheVariants as last

-- what matters of the last token
pub data State : Type 0 where
  at_start : State
  behind_type : Named → State
  in_integers : State
  in_group : State
  in_first : Option ℕ → State
  in_member : Option ℕ → State
  elsewhere : State

abbrev pub state_of : IcuLast → State
state_of last.Start = at_start
state_of last.Other = elsewhere
state_of last.IntegerType = behind_type named.Integer
state_of last.ArrayType = behind_type named.Array
state_of last.OtherType = elsewhere
state_of last.Integer = in_integers
state_of last.Array = elsewhere
state_of last.Typed = in_group
state_of last.Open = in_group
state_of last.Key = in_first None
state_of (last.Value m) = in_group
state_of (last.ValueDigit m) = in_first None
state_of (last.Valued m) = elsewhere
state_of (last.Inner m) = in_group
state_of (last.Digit m) = in_first None
state_of (last.First joined) = in_first joined
state_of (last.Member joined) = in_member joined

abbrev pub string_on : State → Bool → ℕ → State
string_on at_start e n = at_start
string_on (in_first joined) e n = in_first (first_joined joined e n)
string_on (in_member joined) e n = in_member (first_joined joined e n)
string_on in_group e n = in_first None
string_on in_integers e n = in_member None
string_on (behind_type t) e n = in_member None
string_on elsewhere e n = in_member None

abbrev pub type_on : Named → State → State
type_on t at_start = at_start
type_on named.Integer _ = behind_type named.Integer
type_on named.Array _ = behind_type named.Array
type_on _ _ = elsewhere

abbrev pub open_on : State → State
open_on at_start = elsewhere
open_on (behind_type named.Integer) = in_integers
open_on (behind_type _) = elsewhere
open_on _ = in_group

pub string_state : (n : ℕ) (e : Bool) (l : IcuLast)
    → state_of (behind_string n e l) ≡ string_on (state_of l) e n
string_state n e last.Start = refl
string_state n e last.Other = refl
string_state n e last.IntegerType = refl
string_state n e last.ArrayType = refl
string_state n e last.OtherType = refl
string_state n e last.Integer = refl
string_state n e last.Array = refl
string_state n e last.Typed = refl
string_state n e last.Open = refl
string_state n e last.Key = refl
string_state n e (last.Value m) = refl
string_state n e (last.ValueDigit m) = refl
string_state n e (last.Valued m) = refl
string_state n e (last.Inner m) = refl
string_state n e (last.Digit m) = refl
string_state n e (last.First joined) = refl
string_state n e (last.Member joined) = refl

pub plain_state : (n : ℕ) (e d : Bool) (l : IcuLast)
    → state_of (behind_plain_word n e d l) ≡ string_on (state_of l) e n
plain_state n e true last.Start = refl
plain_state n e false last.Start = refl
plain_state n e true last.Other = refl
plain_state n e false last.Other = refl
plain_state n e true last.IntegerType = refl
plain_state n e false last.IntegerType = refl
plain_state n e true last.ArrayType = refl
plain_state n e false last.ArrayType = refl
plain_state n e true last.OtherType = refl
plain_state n e false last.OtherType = refl
plain_state n e true last.Integer = refl
plain_state n e false last.Integer = refl
plain_state n e true last.Array = refl
plain_state n e false last.Array = refl
plain_state n e true last.Typed = refl
plain_state n e false last.Typed = refl
plain_state n e true last.Open = refl
plain_state n e false last.Open = refl
plain_state n e true last.Key = refl
plain_state n e false last.Key = refl
plain_state n e true (last.Value m) = refl
plain_state n e false (last.Value m) = refl
plain_state n e true (last.ValueDigit m) = refl
plain_state n e false (last.ValueDigit m) = refl
plain_state n e true (last.Valued m) = refl
plain_state n e false (last.Valued m) = refl
plain_state n e true (last.Inner m) = refl
plain_state n e false (last.Inner m) = refl
plain_state n e true (last.Digit m) = refl
plain_state n e false (last.Digit m) = refl
plain_state n e true (last.First joined) = refl
plain_state n e false (last.First joined) = refl
plain_state n e true (last.Member joined) = refl
plain_state n e false (last.Member joined) = refl

pub named_state : (t : Named) (l : IcuLast) → state_of (last_named t l) ≡ type_on t (state_of l)
named_state t last.Start = refl
named_state named.Nothing last.Other = refl
named_state named.Array last.Other = refl
named_state named.Integer last.Other = refl
named_state named.IntVector last.Other = refl
named_state named.Another last.Other = refl
named_state named.Nothing last.IntegerType = refl
named_state named.Array last.IntegerType = refl
named_state named.Integer last.IntegerType = refl
named_state named.IntVector last.IntegerType = refl
named_state named.Another last.IntegerType = refl
named_state named.Nothing last.ArrayType = refl
named_state named.Array last.ArrayType = refl
named_state named.Integer last.ArrayType = refl
named_state named.IntVector last.ArrayType = refl
named_state named.Another last.ArrayType = refl
named_state named.Nothing last.OtherType = refl
named_state named.Array last.OtherType = refl
named_state named.Integer last.OtherType = refl
named_state named.IntVector last.OtherType = refl
named_state named.Another last.OtherType = refl
named_state named.Nothing last.Integer = refl
named_state named.Array last.Integer = refl
named_state named.Integer last.Integer = refl
named_state named.IntVector last.Integer = refl
named_state named.Another last.Integer = refl
named_state named.Nothing last.Array = refl
named_state named.Array last.Array = refl
named_state named.Integer last.Array = refl
named_state named.IntVector last.Array = refl
named_state named.Another last.Array = refl
named_state named.Nothing last.Typed = refl
named_state named.Array last.Typed = refl
named_state named.Integer last.Typed = refl
named_state named.IntVector last.Typed = refl
named_state named.Another last.Typed = refl
named_state named.Nothing last.Open = refl
named_state named.Array last.Open = refl
named_state named.Integer last.Open = refl
named_state named.IntVector last.Open = refl
named_state named.Another last.Open = refl
named_state named.Nothing last.Key = refl
named_state named.Array last.Key = refl
named_state named.Integer last.Key = refl
named_state named.IntVector last.Key = refl
named_state named.Another last.Key = refl
named_state named.Nothing (last.Value m) = refl
named_state named.Array (last.Value m) = refl
named_state named.Integer (last.Value m) = refl
named_state named.IntVector (last.Value m) = refl
named_state named.Another (last.Value m) = refl
named_state named.Nothing (last.ValueDigit m) = refl
named_state named.Array (last.ValueDigit m) = refl
named_state named.Integer (last.ValueDigit m) = refl
named_state named.IntVector (last.ValueDigit m) = refl
named_state named.Another (last.ValueDigit m) = refl
named_state named.Nothing (last.Valued m) = refl
named_state named.Array (last.Valued m) = refl
named_state named.Integer (last.Valued m) = refl
named_state named.IntVector (last.Valued m) = refl
named_state named.Another (last.Valued m) = refl
named_state named.Nothing (last.Inner m) = refl
named_state named.Array (last.Inner m) = refl
named_state named.Integer (last.Inner m) = refl
named_state named.IntVector (last.Inner m) = refl
named_state named.Another (last.Inner m) = refl
named_state named.Nothing (last.Digit m) = refl
named_state named.Array (last.Digit m) = refl
named_state named.Integer (last.Digit m) = refl
named_state named.IntVector (last.Digit m) = refl
named_state named.Another (last.Digit m) = refl
named_state named.Nothing (last.First joined) = refl
named_state named.Array (last.First joined) = refl
named_state named.Integer (last.First joined) = refl
named_state named.IntVector (last.First joined) = refl
named_state named.Another (last.First joined) = refl
named_state named.Nothing (last.Member joined) = refl
named_state named.Array (last.Member joined) = refl
named_state named.Integer (last.Member joined) = refl
named_state named.IntVector (last.Member joined) = refl
named_state named.Another (last.Member joined) = refl

pub open_state : (n : ℕ) (l : IcuLast) → state_of (behind_open n l) ≡ open_on (state_of l)
open_state n last.Start = refl
open_state n last.Other = refl
open_state n last.IntegerType = refl
open_state n last.ArrayType = refl
open_state n last.OtherType = refl
open_state n last.Integer = refl
open_state n last.Array = refl
open_state n last.Typed = refl
open_state n last.Open = refl
open_state n last.Key = refl
open_state n (last.Value m) = refl
open_state n (last.ValueDigit m) = refl
open_state n (last.Valued m) = refl
open_state n (last.Inner m) = refl
open_state n (last.Digit m) = refl
open_state n (last.First joined) = refl
open_state n (last.Member joined) = refl

pub close_state : (l : IcuLast) → state_of (behind_close l) ≡ elsewhere
close_state last.Start = refl
close_state last.Other = refl
close_state last.IntegerType = refl
close_state last.ArrayType = refl
close_state last.OtherType = refl
close_state last.Integer = refl
close_state last.Array = refl
close_state last.Typed = refl
close_state last.Open = refl
close_state last.Key = refl
close_state (last.Value m) = refl
close_state (last.ValueDigit m) = refl
close_state (last.Valued m) = refl
close_state (last.Inner m) = refl
close_state (last.Digit m) = refl
close_state (last.First joined) = refl
close_state (last.Member joined) = refl

-- behind a piece or a word of a string
pub step_string : (text : List ℕ) (t : IcuToken) (l : IcuLast) → is_string text t ≡ true
    → state_of (behind_icu_token text t l)
    ≡ string_on (state_of l) (line_ended text (start_of t)) (start_of t)
step_string text (token.Piece n) l h = string_state n (line_ended text n) l
step_string text (token.Word from to) l h =
    by (is_behind_colon text from) h
  where
    by : (b : Bool) → not b ≡ true
        → state_of (if b then last_named (named_by (slice_range text from to)) l
        else behind_plain_word from (line_ended text from) (is_digit (slice_range text from to)) l)
        ≡ string_on (state_of l) (line_ended text from) from
    by true e = absurd (false≢true e)
    by false e =
        plain_state from (line_ended text from) (is_digit (slice_range text from to)) l
step_string text (token.Open n) l h = absurd (false≢true h)
step_string text token.Close l h = absurd (false≢true h)
step_string text token.Comma l h = absurd (false≢true h)

-- tokens by number
abbrev pub kind : Option IcuToken → ℕ
kind None = 0
kind (Some (token.Piece n)) = 1
kind (Some (token.Word from to)) = 2
kind (Some (token.Open n)) = 3
kind (Some token.Close) = 4
kind (Some token.Comma) = 5

pub string_kind : (text : List ℕ) (t : IcuToken) → is_string text t ≡ true → kind (Some t) ≤ 2
string_kind text (token.Piece n) h = omega arith
string_kind text (token.Word from to) h = omega arith
string_kind text (token.Open n) h = absurd (false≢true h)
string_kind text token.Close h = absurd (false≢true h)
string_kind text token.Comma h = absurd (false≢true h)

pub sign_kind : (t : IcuToken) → is_sign t ≡ true → 3 ≤ kind (Some t)
sign_kind (token.Piece n) h = absurd (false≢true h)
sign_kind (token.Word from to) h = absurd (false≢true h)
sign_kind (token.Open n) h = omega arith
sign_kind token.Close h = omega arith
sign_kind token.Comma h = omega arith

-- a string is no type
pub string_no_type : (text : List ℕ) (t : IcuToken) → is_string text t ≡ true
    → is_integer_or_array (type_of text (Some t)) ≡ false
string_no_type text (token.Piece n) h = refl
string_no_type text (token.Word from to) h = by (is_behind_colon text from) h
  where
    by : (b : Bool) → not b ≡ true
        → is_integer_or_array (if b then named_by (slice_range text from to) else named.Nothing)
        ≡ false
    by true e = absurd (false≢true e)
    by false e = refl
string_no_type text (token.Open n) h = refl
string_no_type text token.Close h = refl
string_no_type text token.Comma h = refl

abbrev pub right_on : {A : Type 0} (piece : ℕ → Option A) (n : ℕ) (p : A) → IsRightBefore piece n p
    → piece n ≡ None → IsRightBefore piece (suc n) p
right_on piece n p h e = record {
  at = h.at;
  before = omega (arith, h.before);
  ends = h.ends;
  none = λ k low high. ⊎_elim (λ (w : k < n). h.none k low w)
      (λ (w : n ≤ k). let same : n ≡ k = omega (arith, w, high) in
      subst (λ i. piece i ≡ None) same e) (cases_lt k n);
}

pub right_lower : {A : Type 0} (piece : ℕ → Option A) (n : ℕ) (p : A)
    (h : IsRightBefore piece (suc n) p) → piece n ≡ None → h.at < n
right_lower piece n p h e =
    ⊎_elim (λ (w : h.at < n). w)
    (λ (w : n ≤ h.at). let same : h.at ≡ n = omega (arith, w, h.before) in
    absurd (none-some p (sym e ∙ ap piece (sym same) ∙ h.ends))) (cases_lt h.at n)

abbrev pub right_off : {A : Type 0} (piece : ℕ → Option A) (n : ℕ) (p : A)
    (h : IsRightBefore piece (suc n) p) → piece n ≡ None → IsRightBefore piece n p
right_off piece n p h e = record {
  at = h.at;
  before = right_lower piece n p h e;
  ends = h.ends;
  none = λ k low high. h.none k low (omega (arith, high));
}

abbrev pub right_here : {A : Type 0} (piece : ℕ → Option A) (n : ℕ) (p : A) → piece n ≡ Some p
    → IsRightBefore piece (suc n) p
right_here piece n p e = record {
  at = n;
  before = omega arith;
  ends = e;
  none = λ k low high. absurd (omega (arith, low, high));
}

-- what stands right behind a token is behind that
pub is_here : {A : Type 0} (piece : ℕ → Option A) (n : ℕ) (p q : A) → piece n ≡ Some p
    → (h : IsRightBefore piece (suc n) q) → h.at ≡ n
is_here piece n p q e h =
    ⊎_elim (λ (w : h.at < n). absurd (none-some p (sym (h.none n w (omega arith)) ∙ e)))
    (λ (w : n ≤ h.at). omega (arith, w, h.before)) (cases_lt h.at n)

pub type_same : (t : Named) (s : State) → (s ≡ at_start → ⊥) → type_on t s ≡ type_on t elsewhere
type_same t at_start h = absurd (h refl)
type_same named.Nothing (behind_type k) h = refl
type_same named.Array (behind_type k) h = refl
type_same named.Integer (behind_type k) h = refl
type_same named.IntVector (behind_type k) h = refl
type_same named.Another (behind_type k) h = refl
type_same named.Nothing in_integers h = refl
type_same named.Array in_integers h = refl
type_same named.Integer in_integers h = refl
type_same named.IntVector in_integers h = refl
type_same named.Another in_integers h = refl
type_same named.Nothing in_group h = refl
type_same named.Array in_group h = refl
type_same named.Integer in_group h = refl
type_same named.IntVector in_group h = refl
type_same named.Another in_group h = refl
type_same named.Nothing (in_first joined) h = refl
type_same named.Array (in_first joined) h = refl
type_same named.Integer (in_first joined) h = refl
type_same named.IntVector (in_first joined) h = refl
type_same named.Another (in_first joined) h = refl
type_same named.Nothing (in_member joined) h = refl
type_same named.Array (in_member joined) h = refl
type_same named.Integer (in_member joined) h = refl
type_same named.IntVector (in_member joined) h = refl
type_same named.Another (in_member joined) h = refl
type_same named.Nothing elsewhere h = refl
type_same named.Array elsewhere h = refl
type_same named.Integer elsewhere h = refl
type_same named.IntVector elsewhere h = refl
type_same named.Another elsewhere h = refl

pub start_stays : (t : Named) → type_on t at_start ≡ at_start
start_stays named.Nothing = refl
start_stays named.Array = refl
start_stays named.Integer = refl
start_stays named.IntVector = refl
start_stays named.Another = refl

abbrev pub state_number : State → ℕ
state_number at_start = 0
state_number _ = 1

abbrev pub is_integer : Named → Bool
is_integer named.Integer = true
is_integer _ = false

pub array_is_other : named.Array ≡ named.Integer → ⊥
array_is_other w = false≢true (ap is_integer w)

-- a type that is told apart is that of a list
abbrev pub type_in : State → Named
type_in (behind_type t) = t
type_in _ = named.Integer

pub types_are_either : (l : IcuLast) (t : Named) → state_of l ≡ behind_type t
    → is_integer_or_array t ≡ true
types_are_either l t e = sym (ap (λ s. is_integer_or_array (type_in s)) e) ∙ by l
  where
    by : (k : IcuLast) → is_integer_or_array (type_in (state_of k)) ≡ true
    by last.Start = refl
    by last.Other = refl
    by last.IntegerType = refl
    by last.ArrayType = refl
    by last.OtherType = refl
    by last.Integer = refl
    by last.Array = refl
    by last.Typed = refl
    by last.Open = refl
    by last.Key = refl
    by (last.Value m) = refl
    by (last.ValueDigit m) = refl
    by (last.Valued m) = refl
    by (last.Inner m) = refl
    by (last.Digit m) = refl
    by (last.First joined) = refl
    by (last.Member joined) = refl
