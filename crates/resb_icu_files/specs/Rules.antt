-- What ICU's compiler leaves of a text of transliteration rules: no comments, no line ends, no
-- blanks at a line's begin. Texts are lists of characters here, and quotes are `'`.
--     rules_in text      what is left of a text in UTF-8, if its escapes are ones
use Rattle.std.specs.Prelude.{◌-◌, ◌==◌, ◌||◌, ◌&&◌, not, ℕ, Bool, true, false, List, [], ◌∷◌}
use Rattle.std.specs.Prelude.{◌++◌, Option, Some, None, length, slice_index, nat_le, reverse}
use Rattle.std.specs.Prelude.{if◌then◌else◌, option_map, option_and_then}
use Rattle.std.specs.Str.{chars, encode_utf8_all}
use Rattle.resb_grammar.specs.Lexical.{digits_value}
use Rattle.ucd_category.specs.GeneralCategory.{general_category}
use Rattle.ucd_category.specs.declared.GeneralCategory.{GeneralCategory}
use Rattle.ucd_category.specs.declared.GeneralCategory.TheVariants as category
use Rattle.resb_grammar.specs.Ascii as ascii
use Rattle.resb_grammar.specs.ByteRuns.{is_line_end}
use Rattle.resb_icu_grammar.specs.Bytes.{backslash}
use Rattle.resb_icu_grammar.specs.Escapes.{are_hex}
use Rattle.resb_icu_files.specs.declared.rules.Standing.{Standing}
use Rattle.resb_icu_files.specs.declared.rules.Standing.TheVariants as standing

-- the character #
abbrev pub hash : ℕ
hash = 35

-- the character '
abbrev pub apostrophe : ℕ
apostrophe = 39

-- punctuation, and what controls or separates lines
abbrev pub is_mark_or_control : GeneralCategory → Bool
is_mark_or_control category.ConnectorPunctuation = true
is_mark_or_control category.DashPunctuation = true
is_mark_or_control category.OpenPunctuation = true
is_mark_or_control category.ClosePunctuation = true
is_mark_or_control category.InitialPunctuation = true
is_mark_or_control category.FinalPunctuation = true
is_mark_or_control category.OtherPunctuation = true
is_mark_or_control category.LineSeparator = true
is_mark_or_control category.ParagraphSeparator = true
is_mark_or_control category.Control = true
is_mark_or_control category.Format = true
is_mark_or_control _ = false

-- a character that stays an escape where it stands as one, since it means something in rules
abbrev pub stays_escaped : ℕ → Bool
stays_escaped c = c == ascii.space || is_mark_or_control (general_category c)

-- characters without the spaces that they begin with
abbrev pub behind_spaces : List ℕ → List ℕ
behind_spaces [] = []
behind_spaces (c ∷ cs) = if c == ascii.space then behind_spaces cs else c ∷ cs

-- characters without the spaces that they end with
abbrev pub trimmed : List ℕ → List ℕ
trimmed cs = reverse (behind_spaces (reverse cs))

-- where a reading goes on, and what is left so far
abbrev pub Step : Type 0
Step = Option (Standing × List ℕ)

-- halves of surrogate pairs, which are no characters
abbrev pub is_surrogate : ℕ → Bool
is_surrogate c = nat_le 0xd800 c && nat_le c 0xdfff

-- behind `\u`, given what follows the backslash: the character that four hex digits say, or the
-- backslash where that stays escaped; other digits, and half of a pair, are none
abbrev pub by_number : List ℕ → List ℕ → Step
by_number out rest =
    if not (are_hex rest 1 4) || is_surrogate (digits_value 16 rest 1 4) then None
    else if stays_escaped (digits_value 16 rest 1 4)
    then Some (standing.Plain, out ++ backslash ∷ [])
    else Some (standing.Dropping 5, out ++ digits_value 16 rest 1 4 ∷ [])

-- behind a backslash, given what follows it: a line end is dropped with it; `u` and at least five
-- characters more are an escape; a quote goes on as if one was open
abbrev pub by_escape : List ℕ → List ℕ → Step
by_escape out rest =
    if is_line_end (slice_index rest 0) then Some (standing.Dropping 1, out)
    else if slice_index rest 0 == 117 && nat_le 6 (length rest) then by_number out rest
    else if slice_index rest 0 == apostrophe then Some (standing.Quoted, out ++ backslash ∷ [])
    else Some (standing.Plain, out ++ backslash ∷ [])

-- outside of quotes: a quote opens; `#` begins a comment, before which spaces are dropped
abbrev pub plain_step : List ℕ → ℕ → List ℕ → Step
plain_step out c rest =
    if c == apostrophe then Some (standing.Quoted, out ++ c ∷ [])
    else if c == hash then Some (standing.Comment, trimmed out)
    else if is_line_end c then Some (standing.LineBegin, out)
    else if c == backslash then by_escape out rest
    else Some (standing.Plain, out ++ c ∷ [])

-- inside of quotes: a quote closes, and so does a line's end
abbrev pub quoted_step : List ℕ → ℕ → Step
quoted_step out c =
    if c == apostrophe then Some (standing.Plain, out ++ c ∷ [])
    else if is_line_end c then Some (standing.LineBegin, out)
    else Some (standing.Quoted, out ++ c ∷ [])

-- one character further: a comment goes up to a line's end; at a line's begin line ends and spaces
-- are dropped
abbrev pub rule_step : Standing → List ℕ → ℕ → List ℕ → Step
rule_step standing.Plain out c rest = plain_step out c rest
rule_step standing.Quoted out c rest = quoted_step out c
rule_step standing.Comment out c rest =
    if is_line_end c then Some (standing.LineBegin, out) else Some (standing.Comment, out)
rule_step standing.LineBegin out c rest =
    if is_line_end c || c == ascii.space then Some (standing.LineBegin, out)
    else plain_step out c rest
rule_step (standing.Dropping n) out c rest =
    if nat_le n 1 then Some (standing.Plain, out) else Some (standing.Dropping (n - 1), out)

-- what is left in the end, from where a reading stands on
unfoldable pub stripped : Standing → List ℕ → List ℕ → Option (List ℕ)
stripped standing out [] = Some out
stripped standing out (c ∷ rest) =
    option_and_then (λ s. stripped s.0 s.1 rest) (rule_step standing out c rest)

-- what is left of a text of rules
abbrev pub rules_in : List ℕ → Option (List ℕ)
rules_in text = option_map encode_utf8_all (stripped standing.Plain [] (chars text))
