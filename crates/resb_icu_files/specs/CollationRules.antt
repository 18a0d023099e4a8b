-- What ICU's compiler leaves of a text of collation rules: no comments, and blanks only in quotes,
-- which are `'`, and in commands, which are in brackets. Texts are lists of characters here.
--     collation_rules_in text    what is left of a text in UTF-8, if its escapes are ones and its
--                                comments and commands have an end
use Rattle.std.specs.Prelude.{◌-◌, ◌+◌, ◌==◌, ◌||◌, ◌&&◌, not, ℕ, Bool, true, false, List, []}
use Rattle.std.specs.Prelude.{◌∷◌, ◌++◌, Option, Some, None, length, slice_index, nat_le, nat_lt}
use Rattle.std.specs.Prelude.{if◌then◌else◌, option_map, option_and_then}
use Rattle.std.specs.Char.{is_ascii_alphanumeric}
use Rattle.std.specs.Str.{chars, encode_utf8_all}
use Rattle.resb_grammar.specs.Lexical.{digits_value}
use Rattle.resb_grammar.specs.ByteRuns.{is_line_end, is_white}
use Rattle.resb_icu_grammar.specs.Bytes.{backslash}
use Rattle.resb_icu_grammar.specs.Escapes.{are_hex}
use Rattle.resb_icu_files.specs.Rules.{hash, apostrophe, is_surrogate}
use Rattle.resb_icu_files.specs.declared.collation.Part.{Part}
use Rattle.resb_icu_files.specs.declared.collation.Part.TheVariants as part

-- where a reading goes on, and what is left so far
abbrev pub Step : Type 0
Step = Option (Part × List ℕ)

-- inside of quotes, or outside
abbrev pub quotes : Bool → Part
quotes quoted = if quoted then part.Quoted else part.Plain

-- numbers that digits behind this letter don't stand for: half of a surrogate pair, what is past
-- the last character, and `U` behind `U`, whose digits genrb leaves standing
abbrev pub is_not_said : ℕ → ℕ → Bool
is_not_said letter c = is_surrogate c || (nat_lt 0x10ffff c || (c == 85 && letter == 85))

-- behind a backslash and a letter, the character that n hex digits say; other digits are none
abbrev pub by_digits : Bool → List ℕ → List ℕ → ℕ → Step
by_digits quoted out rest n =
    if not (are_hex rest 1 n) || is_not_said (slice_index rest 0) (digits_value 16 rest 1 n)
    then None
    else Some (part.Digits (n + 1) quoted, out ++ digits_value 16 rest 1 n ∷ [])

-- what follows a backslash makes no escape by itself: nothing, or a letter or digit of ASCII
abbrev pub is_no_escape : List ℕ → Bool
is_no_escape rest = length rest == 0 || is_ascii_alphanumeric (slice_index rest 0)

-- a backslash stays before a character, but not before one beyond U+FFFF
abbrev pub with_backslash : List ℕ → ℕ → List ℕ
with_backslash out c = if nat_lt 0xffff c then out else out ++ backslash ∷ []

-- behind a backslash, given what follows it: `u` and four hex digits, or `U` and eight, are the
-- character that they say; before any other letter or digit, or at the end, there is no escape; and
-- any other character is read as if no backslash stood before it
abbrev pub by_escape : Bool → List ℕ → List ℕ → Step
by_escape quoted out rest =
    if slice_index rest 0 == 117 then by_digits quoted out rest 4
    else if slice_index rest 0 == 85 then by_digits quoted out rest 8
    else if is_no_escape rest then None
    else Some (quotes quoted, with_backslash out (slice_index rest 0))

-- behind a character that stays outside of quotes: `'` opens quotes, and `[` a command
abbrev pub opened : ℕ → Part
opened c = if c == apostrophe then part.Quoted else if c == 91 then part.Command else part.Plain

-- outside of quotes: `#` begins a comment, and blanks go
abbrev pub plain_step : List ℕ → ℕ → List ℕ → Step
plain_step out c rest =
    if c == hash then Some (part.Comment, out)
    else if is_white c then Some (part.Plain, out)
    else if c == backslash then by_escape false out rest
    else Some (opened c, out ++ c ∷ [])

-- inside of quotes all stays up to the `'` that closes them, but escapes
abbrev pub quoted_step : List ℕ → ℕ → List ℕ → Step
quoted_step out c rest =
    if c == backslash then by_escape true out rest
    else Some (quotes (not (c == apostrophe)), out ++ c ∷ [])

-- one character further: a comment goes, up to a line's end; a command stays as it is, up to `]`;
-- what an escape was read from is passed
abbrev pub collation_step : Part → List ℕ → ℕ → List ℕ → Step
collation_step part.Plain out c rest = plain_step out c rest
collation_step part.Quoted out c rest = quoted_step out c rest
collation_step part.Comment out c rest =
    Some (if is_line_end c then part.Plain else part.Comment, out)
collation_step part.Command out c rest =
    Some (if c == 93 then part.Plain else part.Command, out ++ c ∷ [])
collation_step (part.Digits n quoted) out c rest =
    Some (if nat_le n 1 then quotes quoted else part.Digits (n - 1) quoted, out)

-- at the end no comment and no command may be open: ICU's compiler reads on in them without end
abbrev pub at_end : Part → List ℕ → Option (List ℕ)
at_end part.Comment out = None
at_end part.Command out = None
at_end _ out = Some out

-- what is left in the end, from where a reading stands on
unfoldable pub left_from : Part → List ℕ → List ℕ → Option (List ℕ)
left_from at out [] = at_end at out
left_from at out (c ∷ rest) =
    option_and_then (λ s. left_from s.0 s.1 rest) (collation_step at out c rest)

-- what is left of a text of collation rules
abbrev pub collation_rules_in : List ℕ → Option (List ℕ)
collation_rules_in text = option_map encode_utf8_all (left_from part.Plain [] (chars text))
