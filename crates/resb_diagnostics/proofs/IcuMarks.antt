-- The last token of a text of ICU's form as one of few marks, beside its state, and what each token
-- leads to.
use Rattle.std.proofs.Common.{◌≡◌, ℕ, Bool, true, false, ◌&&◌, ◌||◌, List, refl, ap}
use Rattle.std.specs.Prelude.{not, if◌then◌else◌, codes, nat_eq}
use Rattle.std.specs.Cmp.Lexicographic.{pointwise}
use Rattle.std.proofs.lemmas.Bool.{false≢true, true≢false}
use Rattle.resb_diagnostics.specs.Groups.{named_by}
use Rattle.resb_diagnostics.specs.Warnings.{is_nothing}
use Rattle.resb_diagnostics.specs.IcuWarnings.{behind_string, behind_open, behind_close, last_named}
use Rattle.resb_diagnostics.specs.IcuWarnings.{behind_plain_word}
use Rattle.resb_diagnostics.specs.IcuCauses.{is_integer_or_array}
use Rattle.resb_diagnostics.specs.declared.named.Named.{Named}
use Rattle.resb_diagnostics.specs.declared.named.Named.TheVariants as named
use Rattle.resb_diagnostics.specs.declared.icu_tokens.IcuLast.{IcuLast}
use Rattle.resb_diagnostics.specs.declared.icu_tokens.IcuLast.TheVariants as last
use Rattle.resb_diagnostics.proofs.IcuStateLemmas.{State, at_start, behind_type, in_integers}
use Rattle.resb_diagnostics.proofs.IcuStateLemmas.{in_group, in_first, in_member, elsewhere}
use Rattle.resb_diagnostics.proofs.IcuStateLemmas.{state_of, string_on, type_on, open_on}

-- what matters of the last token for keys and digits
pub data Mark : Type 0 where
  no_mark : Mark
  typed_mark : Mark
  open_mark : Mark
  key_mark : Mark
  inner_mark : ℕ → Mark
  value_mark : ℕ → Mark
  digit_mark : ℕ → Mark
  value_digit_mark : ℕ → Mark
  valued_mark : ℕ → Mark

abbrev pub mark_of : IcuLast → Mark
mark_of last.Start = no_mark
mark_of last.Other = no_mark
mark_of last.IntegerType = typed_mark
mark_of last.ArrayType = typed_mark
mark_of last.OtherType = typed_mark
mark_of last.Integer = no_mark
mark_of last.Array = no_mark
mark_of last.Typed = no_mark
mark_of last.Open = open_mark
mark_of last.Key = key_mark
mark_of (last.Value i) = value_mark i
mark_of (last.ValueDigit i) = value_digit_mark i
mark_of (last.Valued i) = valued_mark i
mark_of (last.Inner i) = inner_mark i
mark_of (last.Digit i) = digit_mark i
mark_of (last.First j) = no_mark
mark_of (last.Member j) = no_mark

abbrev pub mark_number : Mark → ℕ
mark_number no_mark = 0
mark_number typed_mark = 1
mark_number open_mark = 2
mark_number key_mark = 3
mark_number (inner_mark i) = 4
mark_number (value_mark i) = 5
mark_number (digit_mark i) = 6
mark_number (value_digit_mark i) = 7
mark_number (valued_mark i) = 8

abbrev pub mark_place : Mark → ℕ
mark_place no_mark = 0
mark_place typed_mark = 0
mark_place open_mark = 0
mark_place key_mark = 0
mark_place (inner_mark i) = i
mark_place (value_mark i) = i
mark_place (digit_mark i) = i
mark_place (value_digit_mark i) = i
mark_place (valued_mark i) = i

abbrev pub begun_in : State → Bool
begun_in at_start = false
begun_in _ = true

abbrev pub group_in : State → Bool
group_in in_group = true
group_in _ = false

abbrev pub list_in : State → Bool
list_in (behind_type t) = true
list_in _ = false

abbrev pub typed_in : Mark → Bool
typed_in typed_mark = true
typed_in _ = false

abbrev pub key_in : Mark → Bool
key_in key_mark = true
key_in _ = false

abbrev pub opening_in : Mark → Bool
opening_in open_mark = true
opening_in (inner_mark i) = true
opening_in (value_mark i) = true
opening_in _ = false

abbrev pub plain_mark : Bool → Mark → Mark
plain_mark d open_mark = key_mark
plain_mark true (inner_mark i) = digit_mark i
plain_mark true (value_mark i) = value_digit_mark i
plain_mark false (inner_mark i) = key_mark
plain_mark false (value_mark i) = key_mark
plain_mark _ _ = no_mark

abbrev pub mark_open : ℕ → Bool → Bool → Bool → Bool → Mark
mark_open n false y g k = no_mark
mark_open n true true g k = no_mark
mark_open n true false true k = inner_mark n
mark_open n true false false true = value_mark n
mark_open n true false false false = open_mark

abbrev pub close_mark : Mark → Mark
close_mark (value_digit_mark i) = valued_mark i
close_mark _ = no_mark

pub string_mark : (n : ℕ) (e : Bool) (l : IcuLast) → mark_of (behind_string n e l) ≡ no_mark
string_mark n e last.Start = refl
string_mark n e last.Other = refl
string_mark n e last.IntegerType = refl
string_mark n e last.ArrayType = refl
string_mark n e last.OtherType = refl
string_mark n e last.Integer = refl
string_mark n e last.Array = refl
string_mark n e last.Typed = refl
string_mark n e last.Open = refl
string_mark n e last.Key = refl
string_mark n e (last.Value i) = refl
string_mark n e (last.ValueDigit i) = refl
string_mark n e (last.Valued i) = refl
string_mark n e (last.Inner i) = refl
string_mark n e (last.Digit i) = refl
string_mark n e (last.First j) = refl
string_mark n e (last.Member j) = refl

pub plain_marks : (n : ℕ) (e d : Bool) (l : IcuLast)
    → mark_of (behind_plain_word n e d l) ≡ plain_mark d (mark_of l)
plain_marks n e true last.Start = refl
plain_marks n e false last.Start = refl
plain_marks n e true last.Other = refl
plain_marks n e false last.Other = refl
plain_marks n e true last.IntegerType = refl
plain_marks n e false last.IntegerType = refl
plain_marks n e true last.ArrayType = refl
plain_marks n e false last.ArrayType = refl
plain_marks n e true last.OtherType = refl
plain_marks n e false last.OtherType = refl
plain_marks n e true last.Integer = refl
plain_marks n e false last.Integer = refl
plain_marks n e true last.Array = refl
plain_marks n e false last.Array = refl
plain_marks n e true last.Typed = refl
plain_marks n e false last.Typed = refl
plain_marks n e true last.Open = refl
plain_marks n e false last.Open = refl
plain_marks n e true last.Key = refl
plain_marks n e false last.Key = refl
plain_marks n e true (last.Value i) = refl
plain_marks n e false (last.Value i) = refl
plain_marks n e true (last.ValueDigit i) = refl
plain_marks n e false (last.ValueDigit i) = refl
plain_marks n e true (last.Valued i) = refl
plain_marks n e false (last.Valued i) = refl
plain_marks n e true (last.Inner i) = refl
plain_marks n e false (last.Inner i) = refl
plain_marks n e true (last.Digit i) = refl
plain_marks n e false (last.Digit i) = refl
plain_marks n e true (last.First j) = refl
plain_marks n e false (last.First j) = refl
plain_marks n e true (last.Member j) = refl
plain_marks n e false (last.Member j) = refl

pub named_mark : (t : Named) (l : IcuLast)
    → mark_of (last_named t l) ≡ (if begun_in (state_of l) then typed_mark else no_mark)
named_mark named.Nothing last.Start = refl
named_mark named.Array last.Start = refl
named_mark named.Integer last.Start = refl
named_mark named.IntVector last.Start = refl
named_mark named.Another last.Start = refl
named_mark named.Nothing last.Other = refl
named_mark named.Array last.Other = refl
named_mark named.Integer last.Other = refl
named_mark named.IntVector last.Other = refl
named_mark named.Another last.Other = refl
named_mark named.Nothing last.IntegerType = refl
named_mark named.Array last.IntegerType = refl
named_mark named.Integer last.IntegerType = refl
named_mark named.IntVector last.IntegerType = refl
named_mark named.Another last.IntegerType = refl
named_mark named.Nothing last.ArrayType = refl
named_mark named.Array last.ArrayType = refl
named_mark named.Integer last.ArrayType = refl
named_mark named.IntVector last.ArrayType = refl
named_mark named.Another last.ArrayType = refl
named_mark named.Nothing last.OtherType = refl
named_mark named.Array last.OtherType = refl
named_mark named.Integer last.OtherType = refl
named_mark named.IntVector last.OtherType = refl
named_mark named.Another last.OtherType = refl
named_mark named.Nothing last.Integer = refl
named_mark named.Array last.Integer = refl
named_mark named.Integer last.Integer = refl
named_mark named.IntVector last.Integer = refl
named_mark named.Another last.Integer = refl
named_mark named.Nothing last.Array = refl
named_mark named.Array last.Array = refl
named_mark named.Integer last.Array = refl
named_mark named.IntVector last.Array = refl
named_mark named.Another last.Array = refl
named_mark named.Nothing last.Typed = refl
named_mark named.Array last.Typed = refl
named_mark named.Integer last.Typed = refl
named_mark named.IntVector last.Typed = refl
named_mark named.Another last.Typed = refl
named_mark named.Nothing last.Open = refl
named_mark named.Array last.Open = refl
named_mark named.Integer last.Open = refl
named_mark named.IntVector last.Open = refl
named_mark named.Another last.Open = refl
named_mark named.Nothing last.Key = refl
named_mark named.Array last.Key = refl
named_mark named.Integer last.Key = refl
named_mark named.IntVector last.Key = refl
named_mark named.Another last.Key = refl
named_mark named.Nothing (last.Value i) = refl
named_mark named.Array (last.Value i) = refl
named_mark named.Integer (last.Value i) = refl
named_mark named.IntVector (last.Value i) = refl
named_mark named.Another (last.Value i) = refl
named_mark named.Nothing (last.ValueDigit i) = refl
named_mark named.Array (last.ValueDigit i) = refl
named_mark named.Integer (last.ValueDigit i) = refl
named_mark named.IntVector (last.ValueDigit i) = refl
named_mark named.Another (last.ValueDigit i) = refl
named_mark named.Nothing (last.Valued i) = refl
named_mark named.Array (last.Valued i) = refl
named_mark named.Integer (last.Valued i) = refl
named_mark named.IntVector (last.Valued i) = refl
named_mark named.Another (last.Valued i) = refl
named_mark named.Nothing (last.Inner i) = refl
named_mark named.Array (last.Inner i) = refl
named_mark named.Integer (last.Inner i) = refl
named_mark named.IntVector (last.Inner i) = refl
named_mark named.Another (last.Inner i) = refl
named_mark named.Nothing (last.Digit i) = refl
named_mark named.Array (last.Digit i) = refl
named_mark named.Integer (last.Digit i) = refl
named_mark named.IntVector (last.Digit i) = refl
named_mark named.Another (last.Digit i) = refl
named_mark named.Nothing (last.First j) = refl
named_mark named.Array (last.First j) = refl
named_mark named.Integer (last.First j) = refl
named_mark named.IntVector (last.First j) = refl
named_mark named.Another (last.First j) = refl
named_mark named.Nothing (last.Member j) = refl
named_mark named.Array (last.Member j) = refl
named_mark named.Integer (last.Member j) = refl
named_mark named.IntVector (last.Member j) = refl
named_mark named.Another (last.Member j) = refl

pub open_marks : (n : ℕ) (l : IcuLast) → mark_of (behind_open n l)
    ≡ mark_open n (begun_in (state_of l)) (typed_in (mark_of l)) (group_in (state_of l))
    (key_in (mark_of l))
open_marks n last.Start = refl
open_marks n last.Other = refl
open_marks n last.IntegerType = refl
open_marks n last.ArrayType = refl
open_marks n last.OtherType = refl
open_marks n last.Integer = refl
open_marks n last.Array = refl
open_marks n last.Typed = refl
open_marks n last.Open = refl
open_marks n last.Key = refl
open_marks n (last.Value i) = refl
open_marks n (last.ValueDigit i) = refl
open_marks n (last.Valued i) = refl
open_marks n (last.Inner i) = refl
open_marks n (last.Digit i) = refl
open_marks n (last.First j) = refl
open_marks n (last.Member j) = refl

pub close_marks : (l : IcuLast) → mark_of (behind_close l) ≡ close_mark (mark_of l)
close_marks last.Start = refl
close_marks last.Other = refl
close_marks last.IntegerType = refl
close_marks last.ArrayType = refl
close_marks last.OtherType = refl
close_marks last.Integer = refl
close_marks last.Array = refl
close_marks last.Typed = refl
close_marks last.Open = refl
close_marks last.Key = refl
close_marks (last.Value i) = refl
close_marks (last.ValueDigit i) = refl
close_marks (last.Valued i) = refl
close_marks (last.Inner i) = refl
close_marks (last.Digit i) = refl
close_marks (last.First j) = refl
close_marks (last.Member j) = refl

pub open_inner : (n : ℕ) (l : IcuLast) → group_in (state_of l) ≡ true
    → behind_open n l ≡ last.Inner n
open_inner n last.Start h = absurd (false≢true h)
open_inner n last.Other h = absurd (false≢true h)
open_inner n last.IntegerType h = absurd (false≢true h)
open_inner n last.ArrayType h = absurd (false≢true h)
open_inner n last.OtherType h = absurd (false≢true h)
open_inner n last.Integer h = absurd (false≢true h)
open_inner n last.Array h = absurd (false≢true h)
open_inner n last.Typed h = refl
open_inner n last.Open h = refl
open_inner n last.Key h = absurd (false≢true h)
open_inner n (last.Value i) h = refl
open_inner n (last.ValueDigit i) h = absurd (false≢true h)
open_inner n (last.Valued i) h = absurd (false≢true h)
open_inner n (last.Inner i) h = refl
open_inner n (last.Digit i) h = absurd (false≢true h)
open_inner n (last.First j) h = absurd (false≢true h)
open_inner n (last.Member j) h = absurd (false≢true h)

pub key_last : (l : IcuLast) → key_in (mark_of l) ≡ true → l ≡ last.Key
key_last last.Start h = absurd (false≢true h)
key_last last.Other h = absurd (false≢true h)
key_last last.IntegerType h = absurd (false≢true h)
key_last last.ArrayType h = absurd (false≢true h)
key_last last.OtherType h = absurd (false≢true h)
key_last last.Integer h = absurd (false≢true h)
key_last last.Array h = absurd (false≢true h)
key_last last.Typed h = absurd (false≢true h)
key_last last.Open h = absurd (false≢true h)
key_last last.Key h = refl
key_last (last.Value i) h = absurd (false≢true h)
key_last (last.ValueDigit i) h = absurd (false≢true h)
key_last (last.Valued i) h = absurd (false≢true h)
key_last (last.Inner i) h = absurd (false≢true h)
key_last (last.Digit i) h = absurd (false≢true h)
key_last (last.First j) h = absurd (false≢true h)
key_last (last.Member j) h = absurd (false≢true h)

pub string_begun : (s : State) (e : Bool) (n : ℕ) → begun_in (string_on s e n) ≡ begun_in s
string_begun at_start e n = refl
string_begun (behind_type u) e n = refl
string_begun in_integers e n = refl
string_begun in_group e n = refl
string_begun (in_first j) e n = refl
string_begun (in_member j) e n = refl
string_begun elsewhere e n = refl

pub string_group : (s : State) (e : Bool) (n : ℕ) → group_in (string_on s e n) ≡ false
string_group at_start e n = refl
string_group (behind_type u) e n = refl
string_group in_integers e n = refl
string_group in_group e n = refl
string_group (in_first j) e n = refl
string_group (in_member j) e n = refl
string_group elsewhere e n = refl

pub string_list : (s : State) (e : Bool) (n : ℕ) → list_in (string_on s e n) ≡ false
string_list at_start e n = refl
string_list (behind_type u) e n = refl
string_list in_integers e n = refl
string_list in_group e n = refl
string_list (in_first j) e n = refl
string_list (in_member j) e n = refl
string_list elsewhere e n = refl

pub type_begun : (t : Named) (s : State) → begun_in (type_on t s) ≡ begun_in s
type_begun named.Nothing at_start = refl
type_begun named.Array at_start = refl
type_begun named.Integer at_start = refl
type_begun named.IntVector at_start = refl
type_begun named.Another at_start = refl
type_begun named.Nothing (behind_type u) = refl
type_begun named.Array (behind_type u) = refl
type_begun named.Integer (behind_type u) = refl
type_begun named.IntVector (behind_type u) = refl
type_begun named.Another (behind_type u) = refl
type_begun named.Nothing in_integers = refl
type_begun named.Array in_integers = refl
type_begun named.Integer in_integers = refl
type_begun named.IntVector in_integers = refl
type_begun named.Another in_integers = refl
type_begun named.Nothing in_group = refl
type_begun named.Array in_group = refl
type_begun named.Integer in_group = refl
type_begun named.IntVector in_group = refl
type_begun named.Another in_group = refl
type_begun named.Nothing (in_first j) = refl
type_begun named.Array (in_first j) = refl
type_begun named.Integer (in_first j) = refl
type_begun named.IntVector (in_first j) = refl
type_begun named.Another (in_first j) = refl
type_begun named.Nothing (in_member j) = refl
type_begun named.Array (in_member j) = refl
type_begun named.Integer (in_member j) = refl
type_begun named.IntVector (in_member j) = refl
type_begun named.Another (in_member j) = refl
type_begun named.Nothing elsewhere = refl
type_begun named.Array elsewhere = refl
type_begun named.Integer elsewhere = refl
type_begun named.IntVector elsewhere = refl
type_begun named.Another elsewhere = refl

pub type_group : (t : Named) (s : State) → group_in (type_on t s) ≡ false
type_group named.Nothing at_start = refl
type_group named.Array at_start = refl
type_group named.Integer at_start = refl
type_group named.IntVector at_start = refl
type_group named.Another at_start = refl
type_group named.Nothing (behind_type u) = refl
type_group named.Array (behind_type u) = refl
type_group named.Integer (behind_type u) = refl
type_group named.IntVector (behind_type u) = refl
type_group named.Another (behind_type u) = refl
type_group named.Nothing in_integers = refl
type_group named.Array in_integers = refl
type_group named.Integer in_integers = refl
type_group named.IntVector in_integers = refl
type_group named.Another in_integers = refl
type_group named.Nothing in_group = refl
type_group named.Array in_group = refl
type_group named.Integer in_group = refl
type_group named.IntVector in_group = refl
type_group named.Another in_group = refl
type_group named.Nothing (in_first j) = refl
type_group named.Array (in_first j) = refl
type_group named.Integer (in_first j) = refl
type_group named.IntVector (in_first j) = refl
type_group named.Another (in_first j) = refl
type_group named.Nothing (in_member j) = refl
type_group named.Array (in_member j) = refl
type_group named.Integer (in_member j) = refl
type_group named.IntVector (in_member j) = refl
type_group named.Another (in_member j) = refl
type_group named.Nothing elsewhere = refl
type_group named.Array elsewhere = refl
type_group named.Integer elsewhere = refl
type_group named.IntVector elsewhere = refl
type_group named.Another elsewhere = refl

pub type_list : (t : Named) (s : State)
    → (begun_in (type_on t s) && is_integer_or_array t) ≡ list_in (type_on t s)
type_list named.Nothing at_start = refl
type_list named.Array at_start = refl
type_list named.Integer at_start = refl
type_list named.IntVector at_start = refl
type_list named.Another at_start = refl
type_list named.Nothing (behind_type u) = refl
type_list named.Array (behind_type u) = refl
type_list named.Integer (behind_type u) = refl
type_list named.IntVector (behind_type u) = refl
type_list named.Another (behind_type u) = refl
type_list named.Nothing in_integers = refl
type_list named.Array in_integers = refl
type_list named.Integer in_integers = refl
type_list named.IntVector in_integers = refl
type_list named.Another in_integers = refl
type_list named.Nothing in_group = refl
type_list named.Array in_group = refl
type_list named.Integer in_group = refl
type_list named.IntVector in_group = refl
type_list named.Another in_group = refl
type_list named.Nothing (in_first j) = refl
type_list named.Array (in_first j) = refl
type_list named.Integer (in_first j) = refl
type_list named.IntVector (in_first j) = refl
type_list named.Another (in_first j) = refl
type_list named.Nothing (in_member j) = refl
type_list named.Array (in_member j) = refl
type_list named.Integer (in_member j) = refl
type_list named.IntVector (in_member j) = refl
type_list named.Another (in_member j) = refl
type_list named.Nothing elsewhere = refl
type_list named.Array elsewhere = refl
type_list named.Integer elsewhere = refl
type_list named.IntVector elsewhere = refl
type_list named.Another elsewhere = refl

pub open_begun : (s : State) → begun_in (open_on s) ≡ true
open_begun at_start = refl
open_begun (behind_type named.Nothing) = refl
open_begun (behind_type named.Array) = refl
open_begun (behind_type named.Integer) = refl
open_begun (behind_type named.IntVector) = refl
open_begun (behind_type named.Another) = refl
open_begun in_integers = refl
open_begun in_group = refl
open_begun (in_first j) = refl
open_begun (in_member j) = refl
open_begun elsewhere = refl

pub open_list : (s : State) → list_in (open_on s) ≡ false
open_list at_start = refl
open_list (behind_type named.Nothing) = refl
open_list (behind_type named.Array) = refl
open_list (behind_type named.Integer) = refl
open_list (behind_type named.IntVector) = refl
open_list (behind_type named.Another) = refl
open_list in_integers = refl
open_list in_group = refl
open_list (in_first j) = refl
open_list (in_member j) = refl
open_list elsewhere = refl

pub open_group : (s : State) (x : Bool) → (begun_in s && x) ≡ list_in s
    → (begun_in s && not x) ≡ group_in (open_on s)
open_group at_start x h = refl
open_group (behind_type named.Nothing) true h = refl
open_group (behind_type named.Nothing) false h = absurd (false≢true h)
open_group (behind_type named.Array) true h = refl
open_group (behind_type named.Array) false h = absurd (false≢true h)
open_group (behind_type named.Integer) true h = refl
open_group (behind_type named.Integer) false h = absurd (false≢true h)
open_group (behind_type named.IntVector) true h = refl
open_group (behind_type named.IntVector) false h = absurd (false≢true h)
open_group (behind_type named.Another) true h = refl
open_group (behind_type named.Another) false h = absurd (false≢true h)
open_group in_integers true h = absurd (true≢false h)
open_group in_integers false h = refl
open_group in_group true h = absurd (true≢false h)
open_group in_group false h = refl
open_group (in_first j) true h = absurd (true≢false h)
open_group (in_first j) false h = refl
open_group (in_member j) true h = absurd (true≢false h)
open_group (in_member j) false h = refl
open_group elsewhere true h = absurd (true≢false h)
open_group elsewhere false h = refl

pub plain_typed : (d : Bool) (k : Mark) → typed_in (plain_mark d k) ≡ false
plain_typed true no_mark = refl
plain_typed true typed_mark = refl
plain_typed true open_mark = refl
plain_typed true key_mark = refl
plain_typed true (inner_mark i) = refl
plain_typed true (value_mark i) = refl
plain_typed true (digit_mark i) = refl
plain_typed true (value_digit_mark i) = refl
plain_typed true (valued_mark i) = refl
plain_typed false no_mark = refl
plain_typed false typed_mark = refl
plain_typed false open_mark = refl
plain_typed false key_mark = refl
plain_typed false (inner_mark i) = refl
plain_typed false (value_mark i) = refl
plain_typed false (digit_mark i) = refl
plain_typed false (value_digit_mark i) = refl
plain_typed false (valued_mark i) = refl

pub plain_opening : (d : Bool) (k : Mark) → opening_in (plain_mark d k) ≡ false
plain_opening true no_mark = refl
plain_opening true typed_mark = refl
plain_opening true open_mark = refl
plain_opening true key_mark = refl
plain_opening true (inner_mark i) = refl
plain_opening true (value_mark i) = refl
plain_opening true (digit_mark i) = refl
plain_opening true (value_digit_mark i) = refl
plain_opening true (valued_mark i) = refl
plain_opening false no_mark = refl
plain_opening false typed_mark = refl
plain_opening false open_mark = refl
plain_opening false key_mark = refl
plain_opening false (inner_mark i) = refl
plain_opening false (value_mark i) = refl
plain_opening false (digit_mark i) = refl
plain_opening false (value_digit_mark i) = refl
plain_opening false (valued_mark i) = refl

pub no_key : (d : Bool) (k : Mark) → opening_in k ≡ false → key_in (plain_mark d k) ≡ false
no_key true no_mark h = refl
no_key true typed_mark h = refl
no_key true open_mark h = absurd (true≢false h)
no_key true key_mark h = refl
no_key true (inner_mark i) h = absurd (true≢false h)
no_key true (value_mark i) h = absurd (true≢false h)
no_key true (digit_mark i) h = refl
no_key true (value_digit_mark i) h = refl
no_key true (valued_mark i) h = refl
no_key false no_mark h = refl
no_key false typed_mark h = refl
no_key false open_mark h = absurd (true≢false h)
no_key false key_mark h = refl
no_key false (inner_mark i) h = absurd (true≢false h)
no_key false (value_mark i) h = absurd (true≢false h)
no_key false (digit_mark i) h = refl
no_key false (value_digit_mark i) h = refl
no_key false (valued_mark i) h = refl

pub close_typed : (k : Mark) → typed_in (close_mark k) ≡ false
close_typed no_mark = refl
close_typed typed_mark = refl
close_typed open_mark = refl
close_typed key_mark = refl
close_typed (inner_mark i) = refl
close_typed (value_mark i) = refl
close_typed (digit_mark i) = refl
close_typed (value_digit_mark i) = refl
close_typed (valued_mark i) = refl

pub close_key : (k : Mark) → key_in (close_mark k) ≡ false
close_key no_mark = refl
close_key typed_mark = refl
close_key open_mark = refl
close_key key_mark = refl
close_key (inner_mark i) = refl
close_key (value_mark i) = refl
close_key (digit_mark i) = refl
close_key (value_digit_mark i) = refl
close_key (valued_mark i) = refl

pub close_opening : (k : Mark) → opening_in (close_mark k) ≡ false
close_opening no_mark = refl
close_opening typed_mark = refl
close_opening open_mark = refl
close_opening key_mark = refl
close_opening (inner_mark i) = refl
close_opening (value_mark i) = refl
close_opening (digit_mark i) = refl
close_opening (value_digit_mark i) = refl
close_opening (valued_mark i) = refl

pub open_typed : (n : ℕ) (b y g k : Bool) → typed_in (mark_open n b y g k) ≡ false
open_typed n true true true true = refl
open_typed n true true true false = refl
open_typed n true true false true = refl
open_typed n true true false false = refl
open_typed n true false true true = refl
open_typed n true false true false = refl
open_typed n true false false true = refl
open_typed n true false false false = refl
open_typed n false true true true = refl
open_typed n false true true false = refl
open_typed n false true false true = refl
open_typed n false true false false = refl
open_typed n false false true true = refl
open_typed n false false true false = refl
open_typed n false false false true = refl
open_typed n false false false false = refl

pub open_key : (n : ℕ) (b y g k : Bool) → key_in (mark_open n b y g k) ≡ false
open_key n true true true true = refl
open_key n true true true false = refl
open_key n true true false true = refl
open_key n true true false false = refl
open_key n true false true true = refl
open_key n true false true false = refl
open_key n true false false true = refl
open_key n true false false false = refl
open_key n false true true true = refl
open_key n false true true false = refl
open_key n false true false true = refl
open_key n false true false false = refl
open_key n false false true true = refl
open_key n false false true false = refl
open_key n false false false true = refl
open_key n false false false false = refl

pub word_key : (n : ℕ) (d b y g k : Bool) → key_in (plain_mark d (mark_open n b y g k))
    ≡ ((true && (b && not y)) && (not d || not (g || k)))
word_key n true true true true true = refl
word_key n true true true true false = refl
word_key n true true true false true = refl
word_key n true true true false false = refl
word_key n true true false true true = refl
word_key n true true false true false = refl
word_key n true true false false true = refl
word_key n true true false false false = refl
word_key n true false true true true = refl
word_key n true false true true false = refl
word_key n true false true false true = refl
word_key n true false true false false = refl
word_key n true false false true true = refl
word_key n true false false true false = refl
word_key n true false false false true = refl
word_key n true false false false false = refl
word_key n false true true true true = refl
word_key n false true true true false = refl
word_key n false true true false true = refl
word_key n false true true false false = refl
word_key n false true false true true = refl
word_key n false true false true false = refl
word_key n false true false false true = refl
word_key n false true false false false = refl
word_key n false false true true true = refl
word_key n false false true true false = refl
word_key n false false true false true = refl
word_key n false false true false false = refl
word_key n false false false true true = refl
word_key n false false false true false = refl
word_key n false false false false true = refl
word_key n false false false false false = refl

pub named_something : (name : List ℕ) → is_nothing (named_by name) ≡ false
named_something name =
    by (pointwise nat_eq name (codes "array"))
    (pointwise nat_eq name (codes "int") || pointwise nat_eq name (codes "integer"))
    (pointwise nat_eq name (codes "intvector"))
  where
    by : (a b c : Bool) → is_nothing (if a then named.Array
        else (if b then named.Integer
        else (if c then named.IntVector else named.Another))) ≡ false
    by true b c = refl
    by false true c = refl
    by false false true = refl
    by false false false = refl

pub and_false : (b : Bool) → (b && false) ≡ false
and_false true = refl
and_false false = refl

pub and_true : (b : Bool) → (b && true) ≡ b
and_true true = refl
and_true false = refl

pub if_typed : (b : Bool) → typed_in (if b then typed_mark else no_mark) ≡ b
if_typed true = refl
if_typed false = refl

pub if_opening : (b : Bool) → opening_in (if b then typed_mark else no_mark) ≡ false
if_opening true = refl
if_opening false = refl

pub if_key : (b : Bool) → key_in (if b then typed_mark else no_mark) ≡ false
if_key true = refl
if_key false = refl

pub and_not : (b z y : Bool) → (b && not z) ≡ y → (b && z) ≡ (b && not y)
and_not false z y h = refl
and_not true true y h = ap not h
and_not true false y h = ap not h
