-- Numbers and joined strings of a text of ICU's form are told where they are due, and nowhere else.
use Rattle.std.proofs.Common.{◌≡◌, ◌∙◌, ℕ, zero, suc, ◌<◌, ℤ, pos, Bool, true, false}
use Rattle.std.proofs.Common.{List, [], ◌∷◌, refl, sym, ap, subst, arith, ⊎_elim, inl, inr}
use Rattle.std.proofs.Common.{Option, Some, None, Contains}
use Rattle.std.specs.Prelude.{slice_range, if◌then◌else◌, ◌⊎◌}
use Rattle.std.proofs.lemmas.Bool.{false≢true}
use Rattle.std.proofs.lemmas.Option.{none-some, same_Some}
use Rattle.std.proofs.lemmas.List.Elements.{Contains-append_left, Contains-append_right}
use Rattle.std.proofs.lemmas.List.Elements.{Contains-append_cases}
use Rattle.resb_diagnostics.specs.Warnings.{warning_at, is_negative, cut}
use Rattle.resb_diagnostics.specs.IcuWarnings.{icu_token_at, is_string, line_ended}
use Rattle.resb_diagnostics.specs.IcuWarnings.{first_joined, without_sign, kept_at, of_integer}
use Rattle.resb_diagnostics.specs.IcuWarnings.{says_octal, icu_number}
use Rattle.resb_diagnostics.specs.IcuWarnings.{of_joined, of_icu_token, of_some_token, and_one}
use Rattle.resb_diagnostics.specs.IcuWarnings.{icu_last_at, icu_warned, behind_some}
use Rattle.resb_diagnostics.specs.IcuCauses.{is_some_string, start_of, IsFirstIn, IsFirstInteger}
use Rattle.resb_diagnostics.specs.IcuCauses.{IsIcuCut, Row, begins, silent, goes_on, BeginsRow}
use Rattle.resb_diagnostics.specs.IcuCauses.{IsJoined, type_of, is_integer_or_array}
use Rattle.resb_diagnostics.specs.declared.icu_tokens.IcuToken.{IcuToken}
use Rattle.resb_diagnostics.specs.declared.icu_tokens.IcuToken.TheVariants as token
use Rattle.resb_diagnostics.specs.declared.icu_tokens.IcuLast.{IcuLast}
use Rattle.resb_diagnostics.specs.declared.icu_tokens.IcuLast.TheVariants as last
use Rattle.resb_diagnostics.specs.declared.warning.Reason.{Reason}
use Rattle.resb_diagnostics.specs.declared.warning.Reason.TheVariants as reason
use Rattle.resb_diagnostics.specs.declared.warning.Warning.{Warning}
use Rattle.resb_diagnostics.specs.IcuCauses.{IsUnquoted, IsIcuDue, tokens_before, IsIcuOctal}
use Rattle.resb_diagnostics.proofs.UnquotedLemmas.{lasts, lasts_at, ends_so}
use Rattle.resb_diagnostics.proofs.UnquotedEnds.{digit_ends, valued_ends}
use Rattle.resb_diagnostics.proofs.Passing.{up}
use Rattle.resb_diagnostics.proofs.RepeatsLemmas.{never, single, has}
use Rattle.resb_diagnostics.proofs.ItemsLemmas.{last_one}
use Rattle.resb_diagnostics.proofs.IcuStateLemmas.{State, at_start, behind_type, in_integers}
use Rattle.resb_diagnostics.proofs.IcuStateLemmas.{in_group}
use Rattle.resb_diagnostics.proofs.IcuStateLemmas.{in_first, in_member, elsewhere, state_of}
use Rattle.resb_diagnostics.proofs.IcuStateLemmas.{string_on}
use Rattle.resb_diagnostics.proofs.IcuStateLemmas.{step_string, string_kind}
use Rattle.resb_diagnostics.proofs.IcuStates.{Shows, shows, IsRow}
use Rattle.resb_diagnostics.proofs.IcuStates.{row_last, not_opening, one_opening, begun_opening}

-- what is told at a place
record ToldAt (text : List ℕ) (n : ℕ) (w : Warning) : Type 0 where
  pub at : ℕ
  pub within : at < n
  pub told : of_some_token text (icu_token_at text at) (icu_last_at text at) ≡ Some w

and_one_cases : (ws : List Warning) (o : Option Warning) (w : Warning) → Contains (and_one ws o) w
    → Contains ws w ⊎ (o ≡ Some w)
and_one_cases ws None w c = inl c
and_one_cases ws (Some v) w c =
    ⊎_elim (λ (d : Contains ws w). inl d)
    (λ (d : Contains (v ∷ []) w). inr (ap Some (sym (single v w d))))
    (Contains-append_cases ws (v ∷ []) w c)

and_one_left : (ws : List Warning) (o : Option Warning) (w : Warning) → Contains ws w
    → Contains (and_one ws o) w
and_one_left ws None w c = c
and_one_left ws (Some v) w c = Contains-append_left ws (v ∷ []) w c

told_at : (text : List ℕ) (n : ℕ) (w : Warning) → Contains (icu_warned text n) w
    → ToldAt text n w
told_at text zero w c = absurd (never w c)
told_at text (suc n) w c =
    ⊎_elim (λ (d : Contains (icu_warned text n) w).
    let t = told_at text n w d in
    record { at = t.at; within = omega (arith, t.within); told = t.told })
    (λ (d : of_some_token text (icu_token_at text n) (icu_last_at text n) ≡ Some w).
    record { at = n; within = omega arith; told = d })
    (and_one_cases (icu_warned text n)
    (of_some_token text (icu_token_at text n) (icu_last_at text n)) w c)

told_on : (text : List ℕ) (n k : ℕ) (t : IcuToken) (w : Warning) → k < n
    → icu_token_at text k ≡ Some t → of_icu_token text t (icu_last_at text k) ≡ Some w
    → Contains (icu_warned text n) w
told_on text n k t w low e h =
    let o = ap (λ p. of_some_token text p (icu_last_at text k)) e ∙ h in
    up (λ j. Contains (icu_warned text j) w) (suc k) n
    (subst (λ p. Contains (and_one (icu_warned text k) p) w) (sym o)
    (Contains-append_right (icu_warned text k) (w ∷ []) w (has w)))
    (omega (arith, low))
    (λ j _ _ c. and_one_left (icu_warned text j)
    (of_some_token text (icu_token_at text j) (icu_last_at text j)) w c)

-- for what a token brings a warning out
pub data TellsFor (text : List ℕ) (t : IcuToken) (l : IcuLast) (w : Warning) : Type 0 where
  a_cut : (from to : ℕ) → t ≡ token.Word from to → l ≡ last.Integer
      → says_octal (without_sign (slice_range text from to)) ≡ false
      → kept_at from (cut (is_negative (slice_range text from to))
      (icu_number (without_sign (slice_range text from to)))) ≡ Some w → TellsFor text t l w
  an_octal : (from to : ℕ) → t ≡ token.Word from to → l ≡ last.Integer
      → says_octal (without_sign (slice_range text from to)) ≡ true
      → w ≡ warning_at reason.OctalNumber from → TellsFor text t l w
  unquoted : (m : ℕ) → t ≡ token.Close → (l ≡ last.Digit m) ⊎ (l ≡ last.Valued m)
      → w ≡ warning_at reason.UnquotedGroup m → TellsFor text t l w
  first_row : (joined : Option ℕ) → t ≡ token.Comma → l ≡ last.First joined
      → of_joined joined ≡ Some w → TellsFor text t l w
  member_row : (joined : Option ℕ) → is_string text t ≡ false → l ≡ last.Member joined
      → of_joined joined ≡ Some w → TellsFor text t l w

by_member : (text : List ℕ) (t : IcuToken) (joined : Option ℕ) (w : Warning) (b : Bool)
    → is_string text t ≡ b → (if b then None else of_joined joined) ≡ Some w
    → TellsFor text t (last.Member joined) w
by_member text t joined w true s e = absurd (none-some w e)
by_member text t joined w false s e = member_row joined s refl e

by_number : (text : List ℕ) (from to : ℕ) (w : Warning) (b : Bool)
    → says_octal (without_sign (slice_range text from to)) ≡ b
    → (if b then Some (warning_at reason.OctalNumber from)
    else kept_at from (cut (is_negative (slice_range text from to))
    (icu_number (without_sign (slice_range text from to))))) ≡ Some w
    → TellsFor text (token.Word from to) last.Integer w
by_number text from to w true s e =
    an_octal from to refl refl s (sym (same_Some (warning_at reason.OctalNumber from) w e))
by_number text from to w false s e = a_cut from to refl refl s e

pub tells_for : (text : List ℕ) (t : IcuToken) (l : IcuLast) (w : Warning)
    → of_icu_token text t l ≡ Some w → TellsFor text t l w
tells_for text (token.Word from to) last.Integer w e =
    by_number text from to w (says_octal (without_sign (slice_range text from to))) refl e
tells_for text token.Close (last.Digit n) w e =
    unquoted n refl (inl refl) (sym (same_Some (warning_at reason.UnquotedGroup n) w e))
tells_for text token.Close (last.Valued n) w e =
    unquoted n refl (inr refl) (sym (same_Some (warning_at reason.UnquotedGroup n) w e))
tells_for text token.Comma (last.First joined) w e = first_row joined refl refl e
tells_for text t (last.Member joined) w e = by_member text t joined w (is_string text t) refl e
tells_for text _ _ w e = absurd (none-some w e)

-- reasons by number
abbrev tag : Reason → ℕ
tag (reason.CutNumber z) = 1
tag reason.UnquotedGroup = 2
tag reason.JoinedOverLine = 3
tag reason.OctalNumber = 4
tag _ = 0

abbrev kept_in : Reason → ℤ
kept_in (reason.CutNumber z) = z
kept_in _ = pos 0

pub joined_is : (joined : Option ℕ) (w : Warning) → of_joined joined ≡ Some w
    → (m : ℕ) × (joined ≡ Some m) × (w ≡ warning_at reason.JoinedOverLine m)
joined_is None w e = absurd (none-some w e)
joined_is (Some m) w e = (m, refl, sym (same_Some (warning_at reason.JoinedOverLine m) w e))

pub kept_is : (n : ℕ) (o : Option ℤ) (w : Warning) → kept_at n o ≡ Some w
    → (z : ℤ) × (o ≡ Some z) × (w ≡ warning_at (reason.CutNumber z) n)
kept_is n None w e = absurd (none-some w e)
kept_is n (Some z) w e = (z, refl, sym (same_Some (warning_at (reason.CutNumber z) n) w e))

-- what is known of a place with its last token
known : (text : List ℕ) (n : ℕ) (l : IcuLast) → icu_last_at text n ≡ l
    → Shows text n (state_of l)
known text n l e = subst (λ k. Shows text n (state_of k)) e (shows text n)

joined_due : (text : List ℕ) (n place : ℕ)
    → Contains (icu_warned text n) (warning_at reason.JoinedOverLine place)
    → IsJoined text n place
joined_due text n place c =
    let w = warning_at reason.JoinedOverLine place in
    let t = told_at text n w c in
    by_token t (icu_token_at text t.at) refl t.told
  where
    by_case : (t : ToldAt text n (warning_at reason.JoinedOverLine place)) (k : IcuToken)
        → icu_token_at text t.at ≡ Some k
        → TellsFor text k (icu_last_at text t.at) (warning_at reason.JoinedOverLine place)
        → IsJoined text n place
    by_case t k e (a_cut from to s l p o) =
        let z = kept_is from (cut (is_negative (slice_range text from to))
        (icu_number (without_sign (slice_range text from to))))
        (warning_at reason.JoinedOverLine place) o in
        absurd (omega (arith, ap (λ v. tag v.reason) z.2))
    by_case t k e (an_octal from to s l p i) = absurd (omega (arith, ap (λ v. tag v.reason) i))
    by_case t k e (unquoted m s l i) = absurd (omega (arith, ap (λ v. tag v.reason) i))
    by_case t k e (first_row joined s l o) =
        let m = joined_is joined (warning_at reason.JoinedOverLine place) o in
        let h = known text t.at (last.First joined) l in
        let j : joined ≡ Some place = m.1 ∙ ap Some (sym (ap (λ v. v.place) m.2)) in record {
          from = h.0.from;
          begins = h.0.begins;
          at = t.at;
          within = t.within;
          row = subst (Row text h.0.from t.at) j h.0.row;
          end = k;
          ends = e;
          no_string = ap (is_string text) s;
          member = λ _. s;
        }
    by_case t k e (member_row joined s l o) =
        let m = joined_is joined (warning_at reason.JoinedOverLine place) o in
        let h = known text t.at (last.Member joined) l in
        let j : joined ≡ Some place = m.1 ∙ ap Some (sym (ap (λ v. v.place) m.2)) in record {
          from = h.0.from;
          begins = h.0.begins;
          at = t.at;
          within = t.within;
          row = subst (Row text h.0.from t.at) j h.0.row;
          end = k;
          ends = e;
          no_string = s;
          member = λ f. absurd (h.1 f);
        }

    by_token : (t : ToldAt text n (warning_at reason.JoinedOverLine place))
        (o : Option IcuToken) → icu_token_at text t.at ≡ o
        → of_some_token text (icu_token_at text t.at) (icu_last_at text t.at)
        ≡ Some (warning_at reason.JoinedOverLine place)
        → IsJoined text n place
    by_token t None e h =
        absurd (none-some (warning_at reason.JoinedOverLine place)
        (sym (ap (λ p. of_some_token text p (icu_last_at text t.at)) e) ∙ h))
    by_token t (Some k) e h =
        by_case t k e (tells_for text k (icu_last_at text t.at)
        (warning_at reason.JoinedOverLine place)
        (sym (ap (λ p. of_some_token text p (icu_last_at text t.at)) e) ∙ h))

cut_due : (text : List ℕ) (n : ℕ) (z : ℤ) (place : ℕ)
    → Contains (icu_warned text n) (warning_at (reason.CutNumber z) place)
    → IsIcuCut text n z place
cut_due text n z place c =
    let w = warning_at (reason.CutNumber z) place in
    let t = told_at text n w c in
    by_token t (icu_token_at text t.at) refl t.told
  where
    by_case : (t : ToldAt text n (warning_at (reason.CutNumber z) place)) (k : IcuToken)
        → icu_token_at text t.at ≡ Some k
        → TellsFor text k (icu_last_at text t.at) (warning_at (reason.CutNumber z) place)
        → IsIcuCut text n z place
    by_case t k e (a_cut from to s l p o) =
        let m = kept_is from (cut (is_negative (slice_range text from to))
        (icu_number (without_sign (slice_range text from to))))
        (warning_at (reason.CutNumber z) place) o in
        let f : from ≡ place = sym (ap (λ v. v.place) m.2) in
        let kept : m.0 ≡ z = sym (ap (λ v. kept_in v.reason) m.2) in record {
          at = t.at;
          within = t.within;
          to = to;
          stands = e ∙ ap Some s ∙ ap (λ i. Some (token.Word i to)) f;
          first = known text t.at last.Integer l;
          plain = sym (ap (λ i. says_octal (without_sign (slice_range text i to))) f) ∙ p;
          is_cut = sym (ap (λ i. cut (is_negative (slice_range text i to))
              (icu_number (without_sign (slice_range text i to)))) f) ∙ m.1 ∙ ap Some kept;
        }
    by_case t k e (an_octal from to s l p i) = absurd (omega (arith, ap (λ v. tag v.reason) i))
    by_case t k e (unquoted m s l i) = absurd (omega (arith, ap (λ v. tag v.reason) i))
    by_case t k e (first_row joined s l o) =
        let m = joined_is joined (warning_at (reason.CutNumber z) place) o in
        absurd (omega (arith, ap (λ v. tag v.reason) m.2))
    by_case t k e (member_row joined s l o) =
        let m = joined_is joined (warning_at (reason.CutNumber z) place) o in
        absurd (omega (arith, ap (λ v. tag v.reason) m.2))

    by_token : (t : ToldAt text n (warning_at (reason.CutNumber z) place))
        (o : Option IcuToken) → icu_token_at text t.at ≡ o
        → of_some_token text (icu_token_at text t.at) (icu_last_at text t.at)
        ≡ Some (warning_at (reason.CutNumber z) place)
        → IsIcuCut text n z place
    by_token t None e h =
        absurd (none-some (warning_at (reason.CutNumber z) place)
        (sym (ap (λ p. of_some_token text p (icu_last_at text t.at)) e) ∙ h))
    by_token t (Some k) e h =
        by_case t k e (tells_for text k (icu_last_at text t.at)
        (warning_at (reason.CutNumber z) place)
        (sym (ap (λ p. of_some_token text p (icu_last_at text t.at)) e) ∙ h))

-- states by number, and the place in a row
abbrev number : State → ℕ
number at_start = 0
number (behind_type t) = 1
number in_integers = 2
number in_group = 3
number (in_first joined) = 4
number (in_member joined) = 5
number elsewhere = 6

abbrev place_in : State → Option ℕ
place_in (in_first joined) = joined
place_in (in_member joined) = joined
place_in _ = None

-- what is the first in a group of integers is in none of another kind
first_or_integer : (text : List ℕ) (n : ℕ) → IsFirstIn text n → IsFirstInteger text n → ⊥
first_or_integer text n f i =
    let same = one_opening text n f.last i.last f.opening i.opening in
    false≢true (sym f.neither ∙ ap is_integer_or_array (ap (type_of text) same ∙ i.integer))

-- no row begins behind a string
no_row : (text : List ℕ) (from : ℕ) (joined : Option ℕ) → IsRow text from joined
    → BeginsRow text from → ⊥
no_row text from joined r b =
    let l = row_last text r.from from joined r.row in
    let same = last_one (icu_token_at text) from b.last (Some l.string) b.before l.before in
    false≢true (sym b.no_string ∙ ap (is_some_string text) same ∙ l.is_one)

-- where a word is the first in a group of integers, the last token says so
integer_state : (text : List ℕ) (n : ℕ) (s : State) → Shows text n s → IsFirstInteger text n
    → s ≡ in_integers
integer_state text n at_start h f = absurd (h (begun_opening text n f.last f.opening))
integer_state text n (behind_type t) h f =
    absurd (not_opening text n (Some h.last) f.last h.before
    (λ o. let w = h.word in omega (arith, o, w)) f.opening)
integer_state text n in_integers h f = refl
integer_state text n in_group h f =
    absurd (first_or_integer text n h f)
integer_state text n (in_first joined) h f =
    let l = row_last text h.0.from n joined h.0.row in
    absurd (not_opening text n (Some l.string) f.last l.before
    (λ o. let k = string_kind text l.string l.is_one in omega (arith, o, k)) f.opening)
integer_state text n (in_member joined) h f =
    let l = row_last text h.0.from n joined h.0.row in
    absurd (not_opening text n (Some l.string) f.last l.before
    (λ o. let k = string_kind text l.string l.is_one in omega (arith, o, k)) f.opening)
integer_state text n elsewhere h f = absurd (h.no_integer f)

integer_last : (l : IcuLast) → state_of l ≡ in_integers → l ≡ last.Integer
integer_last last.Start e = absurd (omega (arith, ap number e))
integer_last last.Other e = absurd (omega (arith, ap number e))
integer_last last.IntegerType e = absurd (omega (arith, ap number e))
integer_last last.ArrayType e = absurd (omega (arith, ap number e))
integer_last last.OtherType e = absurd (omega (arith, ap number e))
integer_last last.Integer e = refl
integer_last last.Array e = absurd (omega (arith, ap number e))
integer_last last.Typed e = absurd (omega (arith, ap number e))
integer_last last.Open e = absurd (omega (arith, ap number e))
integer_last last.Key e = absurd (omega (arith, ap number e))
integer_last (last.Value i) e = absurd (omega (arith, ap number e))
integer_last (last.ValueDigit i) e = absurd (omega (arith, ap number e))
integer_last (last.Valued i) e = absurd (omega (arith, ap number e))
integer_last (last.Inner i) e = absurd (omega (arith, ap number e))
integer_last (last.Digit i) e = absurd (omega (arith, ap number e))
integer_last (last.First joined) e = absurd (omega (arith, ap number e))
integer_last (last.Member joined) e = absurd (omega (arith, ap number e))

first_last : (l : IcuLast) (m : ℕ) → state_of l ≡ in_first (Some m) → l ≡ last.First (Some m)
first_last last.Start m e = absurd (omega (arith, ap number e))
first_last last.Other m e = absurd (omega (arith, ap number e))
first_last last.IntegerType m e = absurd (omega (arith, ap number e))
first_last last.ArrayType m e = absurd (omega (arith, ap number e))
first_last last.OtherType m e = absurd (omega (arith, ap number e))
first_last last.Integer m e = absurd (omega (arith, ap number e))
first_last last.Array m e = absurd (omega (arith, ap number e))
first_last last.Typed m e = absurd (omega (arith, ap number e))
first_last last.Open m e = absurd (omega (arith, ap number e))
first_last last.Key m e = absurd (none-some m (ap place_in e))
first_last (last.Value i) m e = absurd (omega (arith, ap number e))
first_last (last.ValueDigit i) m e = absurd (none-some m (ap place_in e))
first_last (last.Valued i) m e = absurd (omega (arith, ap number e))
first_last (last.Inner i) m e = absurd (omega (arith, ap number e))
first_last (last.Digit i) m e = absurd (none-some m (ap place_in e))
first_last (last.First joined) m e = ap last.First (ap place_in e)
first_last (last.Member joined) m e = absurd (omega (arith, ap number e))

member_last : (l : IcuLast) (m : ℕ) → state_of l ≡ in_member (Some m)
    → l ≡ last.Member (Some m)
member_last last.Start m e = absurd (omega (arith, ap number e))
member_last last.Other m e = absurd (omega (arith, ap number e))
member_last last.IntegerType m e = absurd (omega (arith, ap number e))
member_last last.ArrayType m e = absurd (omega (arith, ap number e))
member_last last.OtherType m e = absurd (omega (arith, ap number e))
member_last last.Integer m e = absurd (omega (arith, ap number e))
member_last last.Array m e = absurd (omega (arith, ap number e))
member_last last.Typed m e = absurd (omega (arith, ap number e))
member_last last.Open m e = absurd (omega (arith, ap number e))
member_last last.Key m e = absurd (omega (arith, ap number e))
member_last (last.Value i) m e = absurd (omega (arith, ap number e))
member_last (last.ValueDigit i) m e = absurd (omega (arith, ap number e))
member_last (last.Valued i) m e = absurd (omega (arith, ap number e))
member_last (last.Inner i) m e = absurd (omega (arith, ap number e))
member_last (last.Digit i) m e = absurd (omega (arith, ap number e))
member_last (last.First joined) m e = absurd (omega (arith, ap number e))
member_last (last.Member joined) m e = ap last.Member (ap place_in e)

cut_told : (text : List ℕ) (n : ℕ) (z : ℤ) (place : ℕ) → IsIcuCut text n z place
    → Contains (icu_warned text n) (warning_at (reason.CutNumber z) place)
cut_told text n z place h =
    let l = integer_last (icu_last_at text h.at)
    (integer_state text h.at (state_of (icu_last_at text h.at)) (shows text h.at) h.first) in
    told_on text n h.at (token.Word place h.to) (warning_at (reason.CutNumber z) place) h.within
    h.stands
    (ap (of_icu_token text (token.Word place h.to)) l
    ∙ ap (λ b. if b then Some (warning_at reason.OctalNumber place)
    else kept_at place (cut (is_negative (slice_range text place h.to))
    (icu_number (without_sign (slice_range text place h.to))))) h.plain
    ∙ ap (kept_at place) h.is_cut)

octal_told : (text : List ℕ) (n : ℕ) (place : ℕ) → IsIcuOctal text n place
    → Contains (icu_warned text n) (warning_at reason.OctalNumber place)
octal_told text n place h =
    let l = integer_last (icu_last_at text h.at)
    (integer_state text h.at (state_of (icu_last_at text h.at)) (shows text h.at) h.first) in
    told_on text n h.at (token.Word place h.to) (warning_at reason.OctalNumber place) h.within
    h.stands
    (ap (of_icu_token text (token.Word place h.to)) l
    ∙ ap (λ b. if b then Some (warning_at reason.OctalNumber place)
    else kept_at place (cut (is_negative (slice_range text place h.to))
    (icu_number (without_sign (slice_range text place h.to))))) h.octal)

-- how a row goes on from what stands before it
abbrev after : State → Option ℕ → State
after in_group joined = in_first joined
after _ joined = in_member joined

-- a row may begin here
abbrev IsBefore : State → Type 0
IsBefore s = (s ≡ in_group) ⊎ ((number s ≡ 1) ⊎ ((number s ≡ 2) ⊎ (number s ≡ 6)))

starts_row : (s : State) (e : Bool) (n : ℕ) → IsBefore s → string_on s e n ≡ after s None
starts_row at_start e n h = absurd (not_so h)
  where
    not_so : IsBefore at_start → ⊥
    not_so (inl w) = omega (arith, ap number w)
    not_so (inr (inl w)) = omega (arith, w)
    not_so (inr (inr (inl w))) = omega (arith, w)
    not_so (inr (inr (inr w))) = omega (arith, w)
starts_row (behind_type t) e n h = refl
starts_row in_integers e n h = refl
starts_row in_group e n h = refl
starts_row (in_first joined) e n h = absurd (not_so h)
  where
    not_so : IsBefore (in_first joined) → ⊥
    not_so (inl w) = omega (arith, ap number w)
    not_so (inr (inl w)) = omega (arith, w)
    not_so (inr (inr (inl w))) = omega (arith, w)
    not_so (inr (inr (inr w))) = omega (arith, w)
starts_row (in_member joined) e n h = absurd (not_so h)
  where
    not_so : IsBefore (in_member joined) → ⊥
    not_so (inl w) = omega (arith, ap number w)
    not_so (inr (inl w)) = omega (arith, w)
    not_so (inr (inr (inl w))) = omega (arith, w)
    not_so (inr (inr (inr w))) = omega (arith, w)
starts_row elsewhere e n h = refl

goes_row : (s : State) (joined : Option ℕ) (e : Bool) (n : ℕ)
    → string_on (after s joined) e n ≡ after s (first_joined joined e n)
goes_row at_start joined e n = refl
goes_row (behind_type t) joined e n = refl
goes_row in_integers joined e n = refl
goes_row in_group joined e n = refl
goes_row (in_first j) joined e n = refl
goes_row (in_member j) joined e n = refl
goes_row elsewhere joined e n = refl

-- behind a row the last token says so
row_state : (text : List ℕ) (from n : ℕ) (joined : Option ℕ) → Row text from n joined
    → IsBefore (state_of (icu_last_at text from))
    → state_of (icu_last_at text n) ≡ after (state_of (icu_last_at text from)) joined
row_state text from n joined (begins t e s) b =
    ap (λ o. state_of (behind_some text o (icu_last_at text from))) e
    ∙ step_string text t (icu_last_at text from) s
    ∙ starts_row (state_of (icu_last_at text from)) (line_ended text (start_of t)) (start_of t) b
row_state text from n joined (silent m _ r e) b =
    ap (λ o. state_of (behind_some text o (icu_last_at text m))) e
    ∙ row_state text from m joined r b
row_state text from n joined (goes_on m j t r e s) b =
    ap (λ o. state_of (behind_some text o (icu_last_at text m))) e
    ∙ step_string text t (icu_last_at text m) s
    ∙ ap (λ k. string_on k (line_ended text (start_of t)) (start_of t))
    (row_state text from m j r b)
    ∙ goes_row (state_of (icu_last_at text from)) j (line_ended text (start_of t)) (start_of t)

-- a row that begins is behind what a row may begin
row_before : (text : List ℕ) (from : ℕ) (s : State) → Shows text from s → BeginsRow text from
    → IsBefore s
row_before text from at_start h b = absurd (h b.begun)
row_before text from (behind_type t) h b = inr (inl refl)
row_before text from in_integers h b = inr (inr (inl refl))
row_before text from in_group h b = inl refl
row_before text from (in_first joined) h b =
    absurd (no_row text from joined h.0 b)
row_before text from (in_member joined) h b =
    absurd (no_row text from joined h.0 b)
row_before text from elsewhere h b = inr (inr (inr refl))

member_tells : (text : List ℕ) (t : IcuToken) (joined : Option ℕ) → is_string text t ≡ false
    → of_icu_token text t (last.Member joined) ≡ of_joined joined
member_tells text (token.Piece n) joined h = absurd (false≢true (sym h))
member_tells text (token.Word from to) joined h =
    ap (λ b. if b then None else of_joined joined) h
member_tells text (token.Open n) joined h = refl
member_tells text token.Close joined h = refl
member_tells text token.Comma joined h = refl

row_tells : (text : List ℕ) (n place : ℕ) (h : IsJoined text n place) (s : State)
    → state_of (icu_last_at text h.from) ≡ s → Shows text h.from s → IsBefore s
    → of_icu_token text h.end (icu_last_at text h.at)
    ≡ Some (warning_at reason.JoinedOverLine place)
row_tells text n place h s e k b = by s e k b
  where
    state : (r : State) → state_of (icu_last_at text h.from) ≡ r → IsBefore r
        → state_of (icu_last_at text h.at) ≡ after r (Some place)
    state r w c =
        row_state text h.from h.at (Some place) h.row (subst IsBefore (sym w) c)
        ∙ ap (λ i. after i (Some place)) w

    member : state_of (icu_last_at text h.at) ≡ in_member (Some place)
        → of_icu_token text h.end (icu_last_at text h.at)
        ≡ Some (warning_at reason.JoinedOverLine place)
    member w =
        ap (of_icu_token text h.end) (member_last (icu_last_at text h.at) place w)
        ∙ member_tells text h.end (Some place) h.no_string

    by : (r : State) → state_of (icu_last_at text h.from) ≡ r → Shows text h.from r
        → IsBefore r
        → of_icu_token text h.end (icu_last_at text h.at)
        ≡ Some (warning_at reason.JoinedOverLine place)
    by in_group w f c =
        ap (of_icu_token text h.end)
        (first_last (icu_last_at text h.at) place (state in_group w c))
        ∙ ap (λ t. of_icu_token text t (last.First (Some place))) (h.member f)
    by at_start w f c = member (state at_start w c)
    by (behind_type t) w f c = member (state (behind_type t) w c)
    by in_integers w f c = member (state in_integers w c)
    by (in_first j) w f c = member (state (in_first j) w c)
    by (in_member j) w f c = member (state (in_member j) w c)
    by elsewhere w f c = member (state elsewhere w c)

joined_told : (text : List ℕ) (n place : ℕ) → IsJoined text n place
    → Contains (icu_warned text n) (warning_at reason.JoinedOverLine place)
joined_told text n place h =
    let s = state_of (icu_last_at text h.from) in
    told_on text n h.at h.end (warning_at reason.JoinedOverLine place) h.within h.ends
    (row_tells text n place h s refl (shows text h.from)
    (row_before text h.from s (shows text h.from) h.begins))

-- what is told of a group of one digit
unquoted_at : (text : List ℕ) (n m at : ℕ) → at < n → icu_token_at text at ≡ Some token.Close
    → (icu_last_at text at ≡ last.Digit m) ⊎ (icu_last_at text at ≡ last.Valued m)
    → IsUnquoted text n m
unquoted_at text n m at low e (inl l) = record {
  at = at;
  within = low;
  closes = e;
  ends = digit_ends text m (tokens_before text at) (sym (lasts_at text at) ∙ l);
}
unquoted_at text n m at low e (inr l) = record {
  at = at;
  within = low;
  closes = e;
  ends = valued_ends text m (tokens_before text at) (sym (lasts_at text at) ∙ l);
}

pub icu_due : (text : List ℕ) (n : ℕ) (w : Warning) → Contains (icu_warned text n) w
    → IsIcuDue text n w.reason w.place
icu_due text n w c =
    let t = told_at text n w c in
    by_token t (icu_token_at text t.at) refl t.told
  where
    due_as : (v : Warning) → w ≡ v
        → (Contains (icu_warned text n) v → IsIcuDue text n v.reason v.place)
        → IsIcuDue text n w.reason w.place
    due_as v e h =
        subst (λ u. IsIcuDue text n u.reason u.place) (sym e)
        (h (subst (Contains (icu_warned text n)) e c))

    by_case : (t : ToldAt text n w) (k : IcuToken) → icu_token_at text t.at ≡ Some k
        → TellsFor text k (icu_last_at text t.at) w → IsIcuDue text n w.reason w.place
    by_case t k e (a_cut from to s l p o) =
        let z = kept_is from (cut (is_negative (slice_range text from to))
        (icu_number (without_sign (slice_range text from to)))) w o in
        due_as (warning_at (reason.CutNumber z.0) from) z.2 (cut_due text n z.0 from)
    by_case t k e (an_octal from to s l p i) =
        due_as (warning_at reason.OctalNumber from) i (λ _. record {
          at = t.at;
          within = t.within;
          to = to;
          stands = e ∙ ap Some s;
          first = known text t.at last.Integer l;
          octal = p;
        })
    by_case t k e (unquoted m s l i) =
        due_as (warning_at reason.UnquotedGroup m) i
        (λ _. unquoted_at text n m t.at t.within (e ∙ ap Some s) l)
    by_case t k e (first_row joined s l o) =
        let m = joined_is joined w o in
        due_as (warning_at reason.JoinedOverLine m.0) m.2 (joined_due text n m.0)
    by_case t k e (member_row joined s l o) =
        let m = joined_is joined w o in
        due_as (warning_at reason.JoinedOverLine m.0) m.2 (joined_due text n m.0)

    by_token : (t : ToldAt text n w) (o : Option IcuToken) → icu_token_at text t.at ≡ o
        → of_some_token text (icu_token_at text t.at) (icu_last_at text t.at) ≡ Some w
        → IsIcuDue text n w.reason w.place
    by_token t None e h =
        absurd (none-some w (sym (ap (λ p. of_some_token text p (icu_last_at text t.at)) e) ∙ h))
    by_token t (Some k) e h =
        by_case t k e (tells_for text k (icu_last_at text t.at) w
        (sym (ap (λ p. of_some_token text p (icu_last_at text t.at)) e) ∙ h))

unquoted_told : (text : List ℕ) (n place : ℕ) → IsUnquoted text n place
    → Contains (icu_warned text n) (warning_at reason.UnquotedGroup place)
unquoted_told text n place h =
    told_on text n h.at token.Close (warning_at reason.UnquotedGroup place) h.within h.closes
    (⊎_elim
    (λ (l : lasts text (tokens_before text h.at) ≡ last.Digit place).
    ap (of_icu_token text token.Close) (lasts_at text h.at ∙ l))
    (λ (l : lasts text (tokens_before text h.at) ≡ last.Valued place).
    ap (of_icu_token text token.Close) (lasts_at text h.at ∙ l))
    (ends_so text place (tokens_before text h.at) h.ends))

pub icu_told : (text : List ℕ) (n : ℕ) (r : Reason) (place : ℕ) → IsIcuDue text n r place
    → Contains (icu_warned text n) (warning_at r place)
icu_told text n (reason.CutNumber z) place h = cut_told text n z place h
icu_told text n reason.OctalNumber place h = octal_told text n place h
icu_told text n reason.JoinedOverLine place h = joined_told text n place h
icu_told text n reason.UnquotedGroup place h = unquoted_told text n place h
icu_told text n (reason.RepeatedKey first) place h = absurd h
icu_told text n reason.Backslash place h = absurd h
icu_told text n reason.StringsInRow place h = absurd h
icu_told text n reason.CommaBehindPairs place h = absurd h
icu_told text n reason.LoneString place h = absurd h
icu_told text n reason.EmptyGroup place h = absurd h
icu_told text n reason.LeadingZero place h = absurd h
icu_told text n reason.UnknownEscape place h = absurd h
icu_told text n reason.TextBehind place h = absurd h
icu_told text n reason.MixedQuotes place h = absurd h
