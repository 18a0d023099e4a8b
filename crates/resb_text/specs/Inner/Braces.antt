-- A brace that must stand at a place, and the refusal where it does not.
use Rattle.std.specs.Prelude.{◌≡◌, ◌≢◌, ℕ, ◌+◌, List, slice_index}
use Rattle.resb_grammar.specs.Ascii as ascii
use Rattle.resb_grammar.specs.Lexical.{Skip}
use Rattle.resb_grammar.specs.declared.expected.Expected.TheVariants as expect
use Rattle.resb_text.specs.declared.error.TextParserError.{TextParserError}

-- `{` stands here, with the discardable text after it
pub record Opens (text : List ℕ) (at to : ℕ) : Type 0 where
  pub brace : slice_index text at ≡ ascii.left_brace
  pub after : Skip text (at + 1) to

-- no `{` stands here, and the error says so
pub record IsUnopened (text : List ℕ) (at : ℕ) (e : TextParserError) : Type 0 where
  pub none : slice_index text at ≢ ascii.left_brace
  pub is : e ≡ record { position = at; expected = expect.LeftBrace }

-- `}` stands here, with the discardable text after it
pub record Closes (text : List ℕ) (at to : ℕ) : Type 0 where
  pub brace : slice_index text at ≡ ascii.right_brace
  pub after : Skip text (at + 1) to

-- no `}` stands here, and the error says so
pub record IsUnclosed (text : List ℕ) (at : ℕ) (e : TextParserError) : Type 0 where
  pub none : slice_index text at ≢ ascii.right_brace
  pub is : e ≡ record { position = at; expected = expect.RightBrace }
