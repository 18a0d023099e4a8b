-- For what the warnings of a text of ICU's form are due, apart from the walk by which `icu_warned`
-- finds them.
--     IsIcuCut text n kept place   a number loses bits
--     IsIcuOctal text n place      a number is octal
--     IsJoined text n place        a string is joined over a line's end to one member of an array
--     IsUnquoted text n place      a group of one digit without quotes
use Rattle.std.specs.Prelude.{◌≡◌, ◌<◌, ℕ, zero, suc, ℤ, Bool, true, false, not, ◌&&◌, ◌||◌}
use Rattle.std.specs.Prelude.{List, [], ◌∷◌, Option, Some, None, slice_range, if◌then◌else◌}
use Rattle.resb_diagnostics.specs.Groups.{named_by}
use Rattle.resb_diagnostics.specs.Items.{IsRightBefore, IsLastBefore}
use Rattle.resb_diagnostics.specs.Warnings.{is_negative, cut, is_nothing}
use Rattle.resb_diagnostics.specs.IcuWarnings.{icu_token_at, is_behind_colon, is_string, line_ended}
use Rattle.resb_diagnostics.specs.IcuWarnings.{first_joined, without_sign, is_digit, icu_number}
use Rattle.resb_diagnostics.specs.IcuWarnings.{says_octal}
use Rattle.resb_diagnostics.specs.declared.named.Named.{Named}
use Rattle.resb_diagnostics.specs.declared.named.Named.TheVariants as named
use Rattle.resb_diagnostics.specs.declared.icu_tokens.IcuToken.{IcuToken}
use Rattle.resb_diagnostics.specs.declared.icu_tokens.IcuToken.TheVariants as token
use Rattle.resb_diagnostics.specs.declared.warning.Reason.{Reason}
use Rattle.resb_diagnostics.specs.declared.warning.Reason.TheVariants as reason

-- a `{`, a `}` or a comma
abbrev pub is_sign : IcuToken → Bool
is_sign (token.Piece n) = false
is_sign (token.Word from to) = false
is_sign _ = true

-- where a piece or a word begins
abbrev pub start_of : IcuToken → ℕ
start_of (token.Piece n) = n
start_of (token.Word from to) = from
start_of _ = 0

-- the type that a token names: a word behind a `:`
abbrev pub type_of : List ℕ → Option IcuToken → Named
type_of text (Some (token.Word from to)) =
    if is_behind_colon text from then named_by (slice_range text from to) else named.Nothing
type_of text _ = named.Nothing

-- one integer, or an array
abbrev pub is_integer_or_array : Named → Bool
is_integer_or_array named.Integer = true
is_integer_or_array named.Array = true
is_integer_or_array _ = false

-- a piece or a word that is no type, if there is a token
abbrev pub is_some_string : List ℕ → Option IcuToken → Bool
is_some_string text None = false
is_some_string text (Some t) = is_string text t

-- a `{`, a `}` or a comma stands before a place: in a bundle the root's `{` does
pub record HasBegun (text : List ℕ) (n : ℕ) : Type 0 where
  pub at : ℕ
  pub before : at < n
  pub sign : IcuToken
  pub stands : icu_token_at text at ≡ Some sign
  pub is_one : is_sign sign ≡ true

-- the token right before a place is the `{` of a group that isn't the root, and this the last one
-- before that
pub record IsBehindOpening (text : List ℕ) (n : ℕ) (last : Option IcuToken) : Type 0 where
  pub place : ℕ
  pub opens : IsRightBefore (icu_token_at text) n (token.Open place)
  pub begun : HasBegun text opens.at
  pub before : IsLastBefore (icu_token_at text) opens.at last

-- what stands at a place is the first in a group that is neither the root, nor one integer, nor an
-- array
pub record IsFirstIn (text : List ℕ) (n : ℕ) : Type 0 where
  pub last : Option IcuToken
  pub opening : IsBehindOpening text n last
  pub neither : is_integer_or_array (type_of text last) ≡ false

-- what stands at a place is the first in a group of one integer
pub record IsFirstInteger (text : List ℕ) (n : ℕ) : Type 0 where
  pub last : Option IcuToken
  pub opening : IsBehindOpening text n last
  pub integer : type_of text last ≡ named.Integer

-- a word of the first n bytes that begins at a place and is the first in a group of one integer is
-- a number that 28 bits don't hold, of which this is kept
pub record IsIcuCut (text : List ℕ) (n : ℕ) (kept : ℤ) (place : ℕ) : Type 0 where
  pub at : ℕ
  pub within : at < n
  pub to : ℕ
  pub stands : icu_token_at text at ≡ Some (token.Word place to)
  pub first : IsFirstInteger text at
  pub plain : says_octal (without_sign (slice_range text place to)) ≡ false
  pub is_cut : cut (is_negative (slice_range text place to))
      (icu_number (without_sign (slice_range text place to))) ≡ Some kept

-- one that begins at a place is octal, and more than 7
pub record IsIcuOctal (text : List ℕ) (n : ℕ) (place : ℕ) : Type 0 where
  pub at : ℕ
  pub within : at < n
  pub to : ℕ
  pub stands : icu_token_at text at ≡ Some (token.Word place to)
  pub first : IsFirstInteger text at
  pub octal : says_octal (without_sign (slice_range text place to)) ≡ true

-- pieces and words that are no types stand in a row from a place up to another, and nothing else:
-- one of them, or more, of which this is the first, but for the first of all, before which a line
-- ended
pub data Row (text : List ℕ) (from : ℕ) : ℕ → Option ℕ → Type 0 where
  begins : (t : IcuToken) → icu_token_at text from ≡ Some t → is_string text t ≡ true
      → Row text from (suc from) None
  silent : (n : ℕ) (joined : Option ℕ) → Row text from n joined → icu_token_at text n ≡ None
      → Row text from (suc n) joined
  goes_on : (n : ℕ) (joined : Option ℕ) (t : IcuToken) → Row text from n joined
      → icu_token_at text n ≡ Some t → is_string text t ≡ true
      → Row text from (suc n) (first_joined joined (line_ended text (start_of t)) (start_of t))

-- a row begins at a place: no piece or word of a string stands right before it
pub record BeginsRow (text : List ℕ) (at : ℕ) : Type 0 where
  pub begun : HasBegun text at
  pub last : Option IcuToken
  pub before : IsLastBefore (icu_token_at text) at last
  pub no_string : is_some_string text last ≡ false

-- a row of strings in which a line ended, the first time before the one at this place, ends in the
-- first n bytes; and a comma ends it, if it is the first in a group: then it is a member
pub record IsJoined (text : List ℕ) (n place : ℕ) : Type 0 where
  pub from : ℕ
  pub begins : BeginsRow text from
  pub at : ℕ
  pub within : at < n
  pub row : Row text from at (Some place)
  pub end : IcuToken
  pub ends : icu_token_at text at ≡ Some end
  pub no_string : is_string text end ≡ false
  pub member : IsFirstIn text from → end ≡ token.Comma

-- one token more, if there is one
abbrev pub with_token : Option IcuToken → List IcuToken → List IcuToken
with_token None ts = ts
with_token (Some t) ts = t ∷ ts

-- the tokens before a place, the last one first
abbrev pub tokens_before : List ℕ → ℕ → List IcuToken
tokens_before text zero = []
tokens_before text (suc n) = with_token (icu_token_at text n) (tokens_before text n)

-- a `{`, a `}` or a comma is among tokens: where they are those before a place in a bundle, the
-- root has begun
abbrev pub has_sign : List IcuToken → Bool
has_sign [] = false
has_sign (t ∷ ts) = is_sign t || has_sign ts

-- the type that the last of tokens names
abbrev pub last_type : List ℕ → List IcuToken → Named
last_type text [] = named.Nothing
last_type text (t ∷ ts) = type_of text (Some t)

-- the last token is the `{` of a group that is neither the root, nor one integer, nor an array
abbrev pub ends_opening : List ℕ → List IcuToken → Bool
ends_opening text (token.Open n ∷ ts) = has_sign ts && not (is_integer_or_array (last_type text ts))
ends_opening text _ = false

-- the last token is a key: a word that is the first in a group which isn't the root and has no
-- type; a digit only if that group isn't the first in another one, and no key stands before it
abbrev pub ends_in_key : List ℕ → List IcuToken → Bool
ends_in_key text (token.Word from to ∷ token.Open n ∷ ts) =
    (is_string text (token.Word from to) && (has_sign ts && is_nothing (last_type text ts)))
    && (not (is_digit (slice_range text from to))
    || not (ends_opening text ts || ends_in_key text ts))
ends_in_key text _ = false

-- tokens end with a group of one digit but for its `}`, whose `{` stands at a place and is the
-- first in a group; or with such a group, behind a key
pub data EndsUnquoted (text : List ℕ) (place : ℕ) : List IcuToken → Type 0 where
  first : (from to : ℕ) (ts : List IcuToken) → is_string text (token.Word from to) ≡ true
      → is_digit (slice_range text from to) ≡ true → ends_opening text ts ≡ true
      → EndsUnquoted text place (token.Word from to ∷ token.Open place ∷ ts)
  behind_key : (from to : ℕ) (ts : List IcuToken) → is_string text (token.Word from to) ≡ true
      → is_digit (slice_range text from to) ≡ true → ends_in_key text ts ≡ true
      → EndsUnquoted text place (token.Close ∷ token.Word from to ∷ token.Open place ∷ ts)

-- the `{` of a group of one digit stands at a place, and a group begins with it, or has nothing but
-- it behind a key; the `}` of the digit, or of that group, stands in the first n bytes
pub record IsUnquoted (text : List ℕ) (n place : ℕ) : Type 0 where
  pub at : ℕ
  pub within : at < n
  pub closes : icu_token_at text at ≡ Some token.Close
  pub ends : EndsUnquoted text place (tokens_before text at)

-- a warning for this reason is due at a place, for what stands in the first n bytes of a text of
-- ICU's form
abbrev pub IsIcuDue : List ℕ → ℕ → Reason → ℕ → Type 0
IsIcuDue text n (reason.CutNumber kept) place = IsIcuCut text n kept place
IsIcuDue text n reason.OctalNumber place = IsIcuOctal text n place
IsIcuDue text n reason.JoinedOverLine place = IsJoined text n place
IsIcuDue text n reason.UnquotedGroup place = IsUnquoted text n place
IsIcuDue text n _ place = ⊥
