-- The keys that stand twice in a table of a text of ICU's form.
--     icu_groups_at text n   the groups that are open behind n bytes, with their items so far
--     icu_repeated text n    the warnings of the keys of the innermost one
--     IsFirstWord bytes word how a key is spelled that bytes begin with, if it is no piece
-- In a text that is a bundle, a group of pairs of a string and a group that is not `:array` is a
-- table.
use Rattle.std.specs.Prelude.{◌≡◌, ◌≤◌, ◌<◌, ℕ, zero, suc, ◌+◌, Bool, true, false, ◌==◌, List, []}
use Rattle.std.specs.Prelude.{◌∷◌, drop, length, slice_range, if◌then◌else◌, Option}
use Rattle.std.specs.Option.{option_map}
use Rattle.resb_grammar.specs.Ascii.{quote}
use Rattle.resb_diagnostics.specs.Braces.{backslash}
use Rattle.resb_diagnostics.specs.Pieces.{TextPiece, a_string, a_type, opening, closing, a_comma}
use Rattle.resb_diagnostics.specs.Pieces.{bytes_placed}
use Rattle.resb_diagnostics.specs.Groups.{Nesting, outside, groups_behind}
use Rattle.resb_diagnostics.specs.Warnings.{of_group}
use Rattle.resb_diagnostics.specs.IcuWarnings.{icu_token_at, is_behind_colon, word_goes_on}
use Rattle.resb_diagnostics.specs.declared.icu_tokens.IcuToken.{IcuToken}
use Rattle.resb_diagnostics.specs.declared.icu_tokens.IcuToken.TheVariants as token
use Rattle.resb_diagnostics.specs.declared.warning.Warning.{Warning}

-- the bytes up to the first quote that no backslash hides, where the first byte is hidden or not
abbrev pub bytes_in_quotes : Bool → List ℕ → List ℕ
bytes_in_quotes hidden [] = []
bytes_in_quotes true (b ∷ bs) = b ∷ bytes_in_quotes false bs
bytes_in_quotes false (b ∷ bs) =
    if b == quote then [] else b ∷ bytes_in_quotes (b == backslash) bs

-- the word with which bytes begin, or nothing: those before the first with which none goes on
pub record IsFirstWord (bytes word : List ℕ) : Type 0 where
  pub to : ℕ
  pub fits : to ≤ length bytes
  pub each : (k : ℕ) → k < to → word_goes_on bytes k ≡ true
  pub ends : word_goes_on bytes to ≡ false
  pub means : word ≡ slice_range bytes 0 to

-- a word: the name of a type behind a `:`, else a string
abbrev pub icu_word_piece : List ℕ → ℕ → ℕ → TextPiece
icu_word_piece text from to =
    if is_behind_colon text from then a_type (slice_range text from to)
    else a_string (bytes_placed (slice_range text from to) from)

-- what a token is to the groups; where a `}` or a comma stands is nothing to them
abbrev pub icu_piece : List ℕ → IcuToken → TextPiece
icu_piece text (token.Piece n) =
    a_string (bytes_placed (bytes_in_quotes false (drop (n + 1) text)) n)
icu_piece text (token.Word from to) = icu_word_piece text from to
icu_piece text (token.Open n) = opening
icu_piece text token.Close = closing 0
icu_piece text token.Comma = a_comma 0

-- the piece that the token at a place is, if one stands there
abbrev pub icu_piece_at : List ℕ → ℕ → Option TextPiece
icu_piece_at text n = option_map (icu_piece text) (icu_token_at text n)

-- the groups that are open behind so many bytes, from the inside out: what each names as its type,
-- and what stood right in it
abbrev pub icu_groups_at : List ℕ → ℕ → Nesting
icu_groups_at text zero = outside
icu_groups_at text (suc n) = groups_behind (icu_piece_at text n) (icu_groups_at text n)

-- the warnings of the keys of the innermost group that is open there, if it is a table
abbrev pub icu_repeated : List ℕ → ℕ → List Warning
icu_repeated text n = of_group (icu_groups_at text n).inner
