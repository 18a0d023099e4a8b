-- The pieces of a text that a person sees: strings, types, braces and commas.
--     piece_at text n   the piece whose last byte stands at a place
-- In a text that is a bundle these are its tokens. Of the `:` before a type and of the parentheses
-- of `(nofallback)` no piece is made.
use Rattle.std.specs.Prelude.{ℕ, zero, suc, ◌+◌, Bool, false, ◌||◌, ◌==◌, List}
use Rattle.std.specs.Prelude.{slice_index, slice_range, if◌then◌else◌, Option, Some, None}
use Rattle.resb_grammar.specs.ByteRuns.{is_word}
use Rattle.resb_diagnostics.specs.Braces.{mode_at}
use Rattle.resb_diagnostics.specs.declared.braces.Mode.{Mode}
use Rattle.resb_diagnostics.specs.declared.braces.Mode.TheVariants as mode
use Rattle.resb_grammar.specs.Ascii.{left_brace, quote, right_brace}
use Rattle.resb_grammar.specs.Ascii.{comma, colon}

-- the character ( by its number in ASCII
abbrev pub left_parenthesis : ℕ
left_parenthesis = 40

-- a string with its bytes, without quotes, and where it begins, with its quote
pub record PlacedText : Type 0 where
  pub bytes : List ℕ
  pub place : ℕ

-- a string, the name of a type, `{`, or `}` or `,` with its place
pub data TextPiece : Type 0 where
  a_string : PlacedText → TextPiece
  a_type : List ℕ → TextPiece
  opening : TextPiece
  closing : ℕ → TextPiece
  a_comma : ℕ → TextPiece

-- where the run of word characters before a place begins: at the place itself if there is none
abbrev pub word_start : List ℕ → ℕ → ℕ
word_start text zero = 0
word_start text (suc n) = if is_word (slice_index text n) then word_start text n else suc n

-- the last quote before a place
abbrev pub quote_before : List ℕ → ℕ → ℕ
quote_before text zero = 0
quote_before text (suc n) = if slice_index text n == quote then n else quote_before text n

-- a `:` or a `(` stands right before this place
abbrev pub is_behind_colon : List ℕ → ℕ → Bool
is_behind_colon text zero = false
is_behind_colon text (suc n) = slice_index text n == colon || slice_index text n == left_parenthesis

-- a string with these bytes
abbrev pub bytes_placed : List ℕ → ℕ → PlacedText
bytes_placed bytes place = record { bytes = bytes; place = place }

-- a word is the name of a type right behind a `:`, or `nofallback` right behind a `(`; else it is a
-- string
abbrev pub word_from : List ℕ → ℕ → ℕ → TextPiece
word_from text from to =
    if is_behind_colon text from then a_type (slice_range text from to)
    else a_string (bytes_placed (slice_range text from to) from)

-- the word whose last byte stands at a place: none where a word character follows
abbrev pub word_at : List ℕ → ℕ → Option TextPiece
word_at text n =
    if is_word (slice_index text (n + 1)) then None
    else Some (word_from text (word_start text n) (n + 1))

-- among tokens: each piece but a word is one byte
abbrev pub token_at : List ℕ → ℕ → ℕ → Option TextPiece
token_at text n b =
    if is_word b then word_at text n
    else (if b == left_brace then Some opening
    else (if b == right_brace then Some (closing n)
    else (if b == comma then Some (a_comma n) else None)))

-- the string between the last quote before a place and that place
abbrev pub quoted_at : List ℕ → ℕ → TextPiece
quoted_at text n =
    a_string (bytes_placed (slice_range text (quote_before text n + 1) n) (quote_before text n))

-- the piece whose last byte stands at a place, by what that byte stands in
abbrev pub piece_in : Mode → List ℕ → ℕ → Option TextPiece
piece_in mode.Tokens text n = token_at text n (slice_index text n)
piece_in mode.Slash text n = token_at text n (slice_index text n)
piece_in mode.Quotes text n =
    if slice_index text n == quote then Some (quoted_at text n) else None
piece_in _ text n = None

-- the piece whose last byte stands at a place: a string with its place, the name of a type (a word
-- right behind a `:` or a `(`), `{`, `}` or `,`; none in a comment
abbrev pub piece_at : List ℕ → ℕ → Option TextPiece
piece_at text n = piece_in (mode_at text n) text n
