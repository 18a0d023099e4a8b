-- Warnings of a text of ICU's form that its bytes tell by what each stands in: of escapes that
-- stand for their character alone, of text behind the root, and of an unquoted string right behind
-- a quoted piece; and all warnings of a text, which tell nothing more behind the root.
--     icu_marked text n   those of the first n bytes
--     icu_found text      all of a text
use Rattle.std.specs.Prelude.{ℕ, zero, suc, ◌-◌, Bool, true, false, ◌&&◌, ◌||◌, not, ◌==◌, List, []}
use Rattle.std.specs.Prelude.{◌∷◌, ◌++◌, codes, length, slice_index, take, if◌then◌else◌, Option}
use Rattle.std.specs.Prelude.{Some, None}
use Rattle.std.specs.List.{list_any}
use Rattle.std.specs.Char.{is_ascii_alphanumeric}
use Rattle.resb_grammar.specs.Ascii.{right_brace, slash, star, quote}
use Rattle.resb_grammar.specs.ByteRuns.{is_white}
use Rattle.resb_icu_grammar.specs.Blanks.{are_there}
use Rattle.resb_icu_grammar.specs.Bytes.{is_unquoted}
use Rattle.resb_icu_grammar.specs.Escapes.{is_letter, begins_longer}
use Rattle.resb_icu_grammar.specs.Unquoted.{begins_comment}
use Rattle.resb_diagnostics.specs.Braces.{mode_in, icu_form, depth_at, has_icu_tokens}
use Rattle.resb_diagnostics.specs.IcuWarnings.{and_one, icu_warned}
use Rattle.resb_diagnostics.specs.Warnings.{warning_at}
use Rattle.resb_diagnostics.specs.declared.braces.IcuMode.{IcuMode}
use Rattle.resb_diagnostics.specs.declared.braces.IcuMode.TheVariants.{As, Escape}
use Rattle.resb_diagnostics.specs.declared.braces.Mode.TheVariants as mode
use Rattle.resb_diagnostics.specs.declared.warning.Reason.TheVariants as reason
use Rattle.resb_diagnostics.specs.declared.warning.Warning.{Warning}

-- a letter or a digit that stands for itself behind a backslash
abbrev pub is_dropped : ℕ → Bool
is_dropped b = is_ascii_alphanumeric b && not (is_letter b || begins_longer b)

-- the warning of a byte by what it stands in: of a backslash before such a letter in quotes
abbrev pub escape_mark : IcuMode → ℕ → ℕ → Option Warning
escape_mark Escape n b =
    if is_dropped b then Some (warning_at reason.UnknownEscape (n - 1)) else None
escape_mark _ n b = None

-- the root's `}` is among the first n bytes
abbrev pub has_ended : List ℕ → ℕ → Bool
has_ended text zero = false
has_ended text (suc n) =
    has_ended text n || ((has_icu_tokens (mode_in icu_form text n)
    && slice_index text n == right_brace) && depth_at icu_form text n == 1)

-- at a place stands what is no blank: a byte among tokens that is neither white nor begins a
-- comment, or U+2029, with which a comment of a line is none
abbrev pub is_no_blank : IcuMode → List ℕ → ℕ → Bool
is_no_blank (As mode.Tokens) text n =
    not (is_white (slice_index text n)) && not (begins_comment text n)
is_no_blank (As mode.LineComment) text n = are_there 0xe2 0x80 0xa9 text n
is_no_blank _ text n = false

-- such stands at a place behind the root
abbrev pub is_behind_root : List ℕ → ℕ → Bool
is_behind_root text n = has_ended text n && is_no_blank (mode_in icu_form text n) text n

-- such stands among the first n bytes
abbrev pub has_more : List ℕ → ℕ → Bool
has_more text zero = false
has_more text (suc n) = has_more text n || is_behind_root text n

-- where the first such stands among the first n bytes, and n where none does
abbrev pub behind_at : List ℕ → ℕ → ℕ
behind_at text zero = zero
behind_at text (suc n) = if has_more text (suc n) then behind_at text n else suc n

-- a text up to what stands behind its root
abbrev pub front : List ℕ → List ℕ
front text = take (behind_at text (length text)) text

-- a byte among tokens is neither white nor one with which a comment begins
abbrev pub is_token_byte : IcuMode → ℕ → Bool
is_token_byte (As mode.Tokens) b = not (is_white b || b == slash)
is_token_byte (As mode.Slash) b = not (is_white b || (b == slash || b == star))
is_token_byte _ b = false

-- a byte in quotes closes a piece
abbrev pub closes_piece : IcuMode → ℕ → Bool
closes_piece (As mode.Quotes) b = b == quote
closes_piece _ b = false

-- a byte is of a token: one among tokens that is neither white nor a slash, and one behind a slash
-- that begins no comment with it
abbrev pub is_of_token : IcuMode → ℕ → Bool
is_of_token (As mode.Slash) b = not (b == slash || b == star)
is_of_token m b = is_token_byte m b

-- before a place a piece is closed, and behind it stands nothing but white bytes and comments
abbrev pub is_behind_piece : List ℕ → ℕ → Bool
is_behind_piece text zero = false
is_behind_piece text (suc n) =
    closes_piece (mode_in icu_form text n) (slice_index text n)
    || (is_behind_piece text n
    && not (is_of_token (mode_in icu_form text n) (slice_index text n)))

-- the warning of an unquoted string behind a piece that a byte tells: it begins there, or with a
-- slash before
abbrev pub mixed_at : IcuMode → ℕ → ℕ → Option Warning
mixed_at (As mode.Tokens) n b =
    if is_of_token (As mode.Tokens) b && is_unquoted b
    then Some (warning_at reason.MixedQuotes n) else None
mixed_at (As mode.Slash) n b =
    if is_of_token (As mode.Slash) b
    then Some (warning_at reason.MixedQuotes (n - 1)) else None
mixed_at _ n b = None

-- the warning of one right behind a piece
abbrev pub mixed_mark : List ℕ → ℕ → Option Warning
mixed_mark text n =
    if is_behind_piece text n
    then mixed_at (mode_in icu_form text n) n (slice_index text n) else None

-- the warnings of a byte, and those before it: of the first that stands behind the root, or of an
-- escape or a string
abbrev pub marked_behind : List ℕ → ℕ → List Warning → List Warning
marked_behind text n ws =
    if is_behind_root text n then ws ++ warning_at reason.TextBehind n ∷ []
    else and_one (and_one ws (escape_mark (mode_in icu_form text n) n (slice_index text n)))
    (mixed_mark text n)

-- the warnings of the first n bytes, of which none comes behind that of text behind the root
abbrev pub icu_marked : List ℕ → ℕ → List Warning
icu_marked text zero = []
icu_marked text (suc n) =
    if has_more text n then icu_marked text n else marked_behind text n (icu_marked text n)

-- all warnings of a text, in no order: those of its bytes, and those of its tokens up to what
-- stands behind its root
abbrev pub icu_found : List ℕ → List Warning
icu_found text = icu_marked text (length text) ++ icu_warned (front text) (length (front text))
