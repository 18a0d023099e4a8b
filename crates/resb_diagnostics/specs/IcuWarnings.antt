-- The warnings of a text of ICU's form: of strings that are joined over a line's end to one member
-- of an array, of integers that lose bits, and of `{0}` where a group begins, and where it is all
-- of a group but a word before it.
--     icu_warned text n   those of the first n bytes
-- In a text that is a bundle the words are its unquoted strings, its numbers and the names of its
-- types. A key is one piece or one word alone. So pieces in a row, or words, are a member of an
-- array, but where they are all that stands in a group that is not `:array`.
use Rattle.std.specs.Prelude.{ℕ, zero, suc, Bool, true, false, ◌&&◌, ◌||◌, not, ◌==◌, List}
use Rattle.std.specs.Prelude.{◌+◌, ◌-◌, ◌*◌, ℤ, [], ◌∷◌, ◌++◌, fold, nat_le}
use Rattle.std.specs.Prelude.{slice_index, slice_range, if◌then◌else◌, Option, Some, None}
use Rattle.std.specs.Char.{is_ascii_digit, digit_value}
use Rattle.resb_diagnostics.specs.Braces.{mode_in, icu_form, has_icu_tokens}
use Rattle.resb_diagnostics.specs.Groups.{named_by}
use Rattle.resb_diagnostics.specs.Warnings.{warning_at, is_quoted, is_negative, number_of, cut}
use Rattle.resb_diagnostics.specs.declared.braces.IcuMode.{IcuMode}
use Rattle.resb_diagnostics.specs.declared.braces.IcuMode.TheVariants.{As, Escape, BlockStart}
use Rattle.resb_diagnostics.specs.declared.named.Named.{Named}
use Rattle.resb_diagnostics.specs.declared.named.Named.TheVariants as named
use Rattle.resb_diagnostics.specs.declared.icu_tokens.IcuToken.{IcuToken}
use Rattle.resb_diagnostics.specs.declared.icu_tokens.IcuToken.TheVariants as token
use Rattle.resb_diagnostics.specs.declared.icu_tokens.IcuLast.{IcuLast}
use Rattle.resb_diagnostics.specs.declared.icu_tokens.IcuLast.TheVariants as last
use Rattle.resb_diagnostics.specs.declared.warning.Reason.TheVariants as reason
use Rattle.resb_diagnostics.specs.declared.warning.Warning.{Warning}
use Rattle.resb_grammar.specs.Ascii.{quote, dash, left_brace, right_brace, comma}
use Rattle.resb_grammar.specs.Ascii.{colon, plus, digit_0}
use Rattle.resb_grammar.specs.ByteRuns.{is_line_end}
use Rattle.resb_icu_grammar.specs.Bytes.{is_unquoted}
use Rattle.resb_icu_grammar.specs.Numbers.{is_hex_letter}
use Rattle.resb_icu_grammar.specs.Unquoted.{begins_comment}

-- what is in quotes, escapes included
abbrev pub is_icu_quoted : IcuMode → Bool
is_icu_quoted (As m) = is_quoted m
is_icu_quoted Escape = true
is_icu_quoted BlockStart = false

-- a word goes on with the byte at a place: that may stand in an unquoted string, and begins no
-- comment, though it may be a slash
abbrev pub word_goes_on : List ℕ → ℕ → Bool
word_goes_on text n = is_unquoted (slice_index text n) && not (begins_comment text n)

-- the byte at a place is one of a word: a word goes on with it, among tokens, and tokens may follow
-- it, so that it isn't the second byte of a comment
abbrev pub is_in_word : List ℕ → ℕ → Bool
is_in_word text n =
    (has_icu_tokens (mode_in icu_form text n) && has_icu_tokens (mode_in icu_form text (suc n)))
    && word_goes_on text n

-- the byte at a place is one of a word, or stands in quotes
abbrev pub is_in_string : List ℕ → ℕ → Bool
is_in_string text n = is_icu_quoted (mode_in icu_form text n) || is_in_word text n

-- a line ended before this place, behind the last byte of a word or in quotes
abbrev pub line_ended : List ℕ → ℕ → Bool
line_ended text zero = false
line_ended text (suc n) =
    not (is_in_string text n) && (is_line_end (slice_index text n) || line_ended text n)

-- where the word begins whose bytes stand right before a place: at the place itself if none do
abbrev pub icu_word_start : List ℕ → ℕ → ℕ
icu_word_start text zero = 0
icu_word_start text (suc n) = if is_in_word text n then icu_word_start text n else suc n

-- among tokens: a piece stands at its first quote, a word at its last byte, from its start up to
-- behind that
abbrev pub icu_token_of : List ℕ → ℕ → ℕ → Option IcuToken
icu_token_of text n b =
    if b == quote then Some (token.Piece n)
    else (if b == left_brace then Some (token.Open n)
    else (if b == right_brace then Some token.Close
    else (if b == comma then Some token.Comma
    else (if is_in_word text n && not (is_in_word text (suc n))
    then Some (token.Word (icu_word_start text n) (n + 1)) else None))))

-- the token at a place, if the byte there isn't in quotes or in a comment
abbrev pub icu_token_at : List ℕ → ℕ → Option IcuToken
icu_token_at text n =
    if icu_form.has_tokens (mode_in icu_form text n)
    then icu_token_of text n (slice_index text n) else None

-- among tokens, a `:` stands at a place
abbrev pub is_colon : List ℕ → ℕ → Bool
is_colon text n = has_icu_tokens (mode_in icu_form text n) && slice_index text n == colon

-- a `:` stands before this place, and between them no byte of a word, and nothing in quotes: in a
-- bundle nothing but blanks
abbrev pub is_behind_colon : List ℕ → ℕ → Bool
is_behind_colon text zero = false
is_behind_colon text (suc n) =
    not (is_in_string text n) && (is_colon text n || is_behind_colon text n)

-- the last token is a type of this name, that of the root or of another group
abbrev pub last_named : Named → IcuLast → IcuLast
last_named _ last.Start = last.Start
last_named named.Integer _ = last.IntegerType
last_named named.Array _ = last.ArrayType
last_named _ _ = last.OtherType

-- these bytes are one decimal digit
abbrev pub is_digit : List ℕ → Bool
is_digit (b ∷ []) = is_ascii_digit b
is_digit _ = false

-- the first piece or word of a string before which a line ended: that one, or the one at this place
abbrev pub first_joined : Option ℕ → Bool → ℕ → Option ℕ
first_joined (Some m) _ n = Some m
first_joined None true n = Some n
first_joined None false n = None

-- behind a piece or a word at a place, where a line ended before it or not: it is the bundle's
-- name, or goes on with the string before, or begins one, first in a group or elsewhere
abbrev pub behind_string : ℕ → Bool → IcuLast → IcuLast
behind_string n ended last.Start = last.Start
behind_string n ended (last.First joined) = last.First (first_joined joined ended n)
behind_string n ended (last.Member joined) = last.Member (first_joined joined ended n)
behind_string n ended last.Key = last.First (first_joined None ended n)
behind_string n ended (last.Digit m) = last.First (first_joined None ended n)
behind_string n ended (last.ValueDigit m) = last.First (first_joined None ended n)
behind_string n ended last.Open = last.First None
behind_string n ended last.Typed = last.First None
behind_string n ended (last.Inner m) = last.First None
behind_string n ended (last.Value m) = last.First None
behind_string n ended _ = last.Member None

-- behind a word at a place, where a line ended before it or not, that is no type, one digit or not:
-- a digit that stands first in a group with which another begins, or in the value of the first key
-- of another; any other word that stands first in a group without a type, which is a key where a
-- `{` follows; or what it is behind a piece
abbrev pub behind_plain_word : ℕ → Bool → Bool → IcuLast → IcuLast
behind_plain_word n ended true (last.Inner m) = last.Digit m
behind_plain_word n ended true (last.Value m) = last.ValueDigit m
behind_plain_word n ended false (last.Inner m) = last.Key
behind_plain_word n ended false (last.Value m) = last.Key
behind_plain_word n ended _ last.Open = last.Key
behind_plain_word n ended _ l = behind_string n ended l

-- behind a word: it is the name of a type behind a `:`
abbrev pub behind_icu_word : List ℕ → ℕ → ℕ → IcuLast → IcuLast
behind_icu_word text from to l =
    if is_behind_colon text from then last_named (named_by (slice_range text from to)) l
    else behind_plain_word from (line_ended text from) (is_digit (slice_range text from to)) l

-- behind a `{` at a place: what group it begins, be that the root or another one
abbrev pub behind_open : ℕ → IcuLast → IcuLast
behind_open n last.Start = last.Other
behind_open n last.IntegerType = last.Integer
behind_open n last.ArrayType = last.Array
behind_open n last.OtherType = last.Typed
behind_open n last.Open = last.Inner n
behind_open n last.Typed = last.Inner n
behind_open n (last.Inner m) = last.Inner n
behind_open n (last.Value m) = last.Inner n
behind_open n last.Key = last.Value n
behind_open n _ = last.Open

-- behind a `}`: that of a digit which is the value of the first key of a group, or any other
abbrev pub behind_close : IcuLast → IcuLast
behind_close (last.ValueDigit n) = last.Valued n
behind_close _ = last.Other

-- the last token behind one more
abbrev pub behind_icu_token : List ℕ → IcuToken → IcuLast → IcuLast
behind_icu_token text (token.Piece n) l = behind_string n (line_ended text n) l
behind_icu_token text (token.Word from to) l = behind_icu_word text from to l
behind_icu_token text (token.Open n) l = behind_open n l
behind_icu_token text token.Close l = behind_close l
behind_icu_token text token.Comma l = last.Other

-- the same behind a place where a token may stand
abbrev pub behind_some : List ℕ → Option IcuToken → IcuLast → IcuLast
behind_some text None l = l
behind_some text (Some t) l = behind_icu_token text t l

-- the last token of so many bytes
abbrev pub icu_last_at : List ℕ → ℕ → IcuLast
icu_last_at text zero = last.Start
icu_last_at text (suc n) = behind_some text (icu_token_at text n) (icu_last_at text n)

-- a number's bytes without its sign
abbrev pub without_sign : List ℕ → List ℕ
without_sign [] = []
without_sign (b ∷ bs) = if b == dash || b == plus then bs else b ∷ bs

-- the number that hex digits say
abbrev pub hex_number : List ℕ → ℕ
hex_number digits = fold (λ n b. n * 16 + digit_value b) 0 digits

-- the number that octal digits say
abbrev pub octal_number : List ℕ → ℕ
octal_number digits = fold (λ n b. n * 8 + (b - digit_0)) 0 digits

-- what stands behind the 0 with which a number begins: an `x` and hex digits, or octal ones
abbrev pub number_behind_zero : List ℕ → ℕ
number_behind_zero [] = 0
number_behind_zero (b ∷ bs) = if is_hex_letter b then hex_number bs else octal_number (b ∷ bs)

-- the number that a number's bytes say behind its sign
abbrev pub icu_number : List ℕ → ℕ
icu_number [] = 0
icu_number (b ∷ bs) = if b == digit_0 then number_behind_zero bs else number_of (b ∷ bs)

-- the bytes behind a 0 are octal digits, and say more than 7
abbrev pub is_octal_rest : List ℕ → Bool
is_octal_rest [] = false
is_octal_rest (b ∷ bs) = not (is_hex_letter b) && nat_le 8 (octal_number (b ∷ bs))

-- a number's bytes behind its sign are a 0 and octal digits that say more than 7
abbrev pub says_octal : List ℕ → Bool
says_octal [] = false
says_octal (b ∷ bs) = b == digit_0 && is_octal_rest bs

-- the warning of a number of which only this is kept
abbrev pub kept_at : ℕ → Option ℤ → Option Warning
kept_at n None = None
kept_at n (Some z) = Some (warning_at (reason.CutNumber z) n)

-- the warning of an integer at a place that is octal, or that 28 bits don't hold
abbrev pub of_integer : ℕ → List ℕ → Option Warning
of_integer n bytes =
    if says_octal (without_sign bytes) then Some (warning_at reason.OctalNumber n)
    else kept_at n (cut (is_negative bytes) (icu_number (without_sign bytes)))

-- the warning of a string that is joined over a line's end, at the first piece or word behind one
abbrev pub of_joined : Option ℕ → Option Warning
of_joined None = None
of_joined (Some n) = Some (warning_at reason.JoinedOverLine n)

-- a string in a row may go on with this token: a piece, or a word that is no type
abbrev pub is_string : List ℕ → IcuToken → Bool
is_string text (token.Piece n) = true
is_string text (token.Word from to) = not (is_behind_colon text from)
is_string text _ = false

-- the warning that a token brings out: of an integer; of `{0}` with which a group begins, at its
-- `}`; of `{0}` behind a word, where both are all that stands in a group without a type which isn't
-- the root, at that one's `}`; of a string among the members of an array, behind its last piece or
-- word; and of one that is first in a group, where a comma follows it
abbrev pub of_icu_token : List ℕ → IcuToken → IcuLast → Option Warning
of_icu_token text (token.Word from to) last.Integer = of_integer from (slice_range text from to)
of_icu_token text token.Close (last.Digit n) = Some (warning_at reason.UnquotedGroup n)
of_icu_token text token.Close (last.Valued n) = Some (warning_at reason.UnquotedGroup n)
of_icu_token text token.Comma (last.First joined) = of_joined joined
of_icu_token text t (last.Member joined) = if is_string text t then None else of_joined joined
of_icu_token text _ _ = None

-- the same of a place where a token may stand
abbrev pub of_some_token : List ℕ → Option IcuToken → IcuLast → Option Warning
of_some_token text None l = None
of_some_token text (Some t) l = of_icu_token text t l

-- warnings, and one more if there is one
abbrev pub and_one : List Warning → Option Warning → List Warning
and_one ws None = ws
and_one ws (Some w) = ws ++ w ∷ []

-- the warnings of the first n bytes
abbrev pub icu_warned : List ℕ → ℕ → List Warning
icu_warned text zero = []
icu_warned text (suc n) =
    and_one (icu_warned text n) (of_some_token text (icu_token_at text n) (icu_last_at text n))
