-- What stands between the tokens of ICU's text form: white characters and comments.
-- A mark may stand at a text's start, before all else.
use Rattle.std.specs.Prelude.{◌≡◌, ◌≤◌, ◌<◌, ◌+◌, ◌⊎◌, ◌&&◌, ◌==◌, ℕ, Bool, true}
use Rattle.std.specs.Prelude.{false, List, length, slice_index}
use Rattle.resb_grammar.specs.Ascii as ascii
use Rattle.resb_grammar.specs.ByteRuns.{is_white}
use Rattle.resb_grammar.specs.Lexical.{FirstCloser}
use Rattle.resb_grammar.specs.ByteRuns.{is_line_end}

-- these three bytes stand there
abbrev pub are_there : ℕ → ℕ → ℕ → List ℕ → ℕ → Bool
are_there a b c text at =
    slice_index text at == a && (slice_index text (at + 1) == b && slice_index text (at + 2) == c)

-- the text begins with the byte order mark, EF BB BF
abbrev pub has_mark : List ℕ → Bool
has_mark text = are_there 0xef 0xbb 0xbf text 0

-- where a text begins: behind its mark, or with its first byte where it has none
pub data Begins (text : List ℕ) (at : ℕ) : Type 0 where
  behind_the_mark : has_mark text ≡ true → at ≡ 3 → Begins text at
  without_a_mark : has_mark text ≡ false → at ≡ 0 → Begins text at

-- what follows `//` up to the first LF or CR, or to the text's end; no U+2029, which is E2 80 A9,
-- since genrb ends a line there
pub record LineRest (text : List ℕ) (from to : ℕ) : Type 0 where
  pub order : from ≤ to
  pub fits : to ≤ length text
  pub inner : (k : ℕ) → from ≤ k → k < to → is_line_end (slice_index text k) ≡ false
  pub plain : (k : ℕ) → from ≤ k → k < to → are_there 0xe2 0x80 0xa9 text k ≡ false
  pub ends : (to ≡ length text) ⊎ (is_line_end (slice_index text to) ≡ true)

-- a comment: `//` and the rest of the line; or `/*` and the first `*/` that begins at least one
-- character behind it, so that `/**/` is still open
pub data Comment (text : List ℕ) (from to : ℕ) : Type 0 where
  line : slice_index text from ≡ ascii.slash → slice_index text (from + 1) ≡ ascii.slash
      → LineRest text (from + 2) to → Comment text from to
  block : (at : ℕ) → slice_index text from ≡ ascii.slash → slice_index text (from + 1) ≡ ascii.star
      → FirstCloser text (from + 3) at → to ≡ at + 2 → Comment text from to

-- white characters and comments
pub data Blanks (text : List ℕ) : ℕ → ℕ → Type 0 where
  none : (i : ℕ) → Blanks text i i
  white : (i to : ℕ) → is_white (slice_index text i) ≡ true → Blanks text (i + 1) to
      → Blanks text i to
  comment : (i k to : ℕ) → Comment text i k → Blanks text k to → Blanks text i to

-- neither a white character nor a comment begins here
pub record IsSolid (text : List ℕ) (at : ℕ) : Type 0 where
  pub no_white : is_white (slice_index text at) ≡ false
  pub no_comment : (k : ℕ) → Comment text at k → ⊥

-- blanks, as far as they go: white characters and comments; `/*` runs to the first `*/` that begins
-- at least one character behind it
pub record Skip (text : List ℕ) (from to : ℕ) : Type 0 where
  pub blanks : Blanks text from to
  pub solid : IsSolid text to
