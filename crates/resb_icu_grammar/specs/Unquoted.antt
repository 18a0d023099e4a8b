-- Unquoted strings: which bytes they have, where one ends, and how those in a row are joined.
use Rattle.std.specs.Prelude.{◌≡◌, ◌≤◌, ◌<◌, ◌+◌, ◌&&◌, ◌||◌, ◌==◌, not, ℕ, Bool, true, false}
use Rattle.std.specs.Prelude.{List, ◌∷◌, ◌++◌, length, slice_index, slice_range, nat_lt, nat_le}
use Rattle.resb_grammar.specs.Ascii as ascii
use Rattle.resb_grammar.specs.ByteRuns.{is_white}
use Rattle.resb_icu_grammar.specs.Blanks.{are_there, Skip}
use Rattle.resb_icu_grammar.specs.Bytes.{is_unquoted}

-- with a slash at this place a comment begins, or seems to
abbrev pub begins_comment : List ℕ → ℕ → Bool
begins_comment text at =
    slice_index text at == ascii.slash
    && (slice_index text (at + 1) == ascii.slash || slice_index text (at + 1) == ascii.star)

-- a character stands there that genrb takes for a blank, U+2029 or U+FEFF, or for none, U+FFFE
abbrev pub is_no_letter : List ℕ → ℕ → Bool
is_no_letter text at =
    are_there 0xe2 0x80 0xa9 text at
    || (are_there 0xef 0xbb 0xbf text at || are_there 0xef 0xbf 0xbe text at)

-- an unquoted string goes on there: with a byte that may stand in one, and neither with a comment
-- nor with one of those characters
abbrev pub goes_on : List ℕ → ℕ → Bool
goes_on text at =
    is_unquoted (slice_index text at) && not (begins_comment text at || is_no_letter text at)

-- one may begin with this byte, if it goes on there: with any but one inside a character
abbrev pub may_begin : ℕ → Bool
may_begin b = nat_lt b 128 || nat_le 192 b

-- an unquoted string: from its first byte on as far as it goes on
pub record Unquoted (text : List ℕ) (from to : ℕ) (bytes : List ℕ) : Type 0 where
  pub begins : may_begin (slice_index text from) ≡ true
  pub some : from < to
  pub fits : to ≤ length text
  pub each : (k : ℕ) → from ≤ k → k < to → goes_on text k ≡ true
  pub longest : goes_on text to ≡ false
  pub means : bytes ≡ slice_range text from to

-- one begins there
abbrev pub begins_unquoted : List ℕ → ℕ → Bool
begins_unquoted text at = may_begin (slice_index text at) && goes_on text at

-- unquoted strings in a row, joined by one blank each: behind each but the last a white character
-- stands first, and then blanks up to the next. A row ends where no white character stands right
-- behind a string, or where none begins behind the blanks
pub data UnquotedRow (text : List ℕ) : ℕ → ℕ → List ℕ → Type 0 where
  last_one : (from to next : ℕ) (bytes : List ℕ) → Unquoted text from to bytes → Skip text to next
      → (is_white (slice_index text to) && begins_unquoted text next) ≡ false
      → UnquotedRow text from to bytes
  one_more : (from mid next to : ℕ) (bytes later : List ℕ) → Unquoted text from mid bytes
      → is_white (slice_index text mid) ≡ true → Skip text mid next → UnquotedRow text next to later
      → UnquotedRow text from to (bytes ++ ascii.space ∷ later)
