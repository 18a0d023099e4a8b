-- What the code finds between one place of a text and another.
use Rattle.std.specs.Prelude.{◌≡◌, ℕ, ◌+◌, ◌-◌, ◌<◌, ◌≤◌, true, false, List, [], ◌∷◌, ◌++◌}
use Rattle.std.specs.Prelude.{length, slice_index, ◌==◌, if◌then◌else◌, ◌⊎◌, Option, Some, None}
use Rattle.std.specs.Option.{option_map}
use Rattle.resb_grammar.specs.Ascii.{line_feed, quote, left_brace, right_brace, comma}
use Rattle.resb_grammar.specs.ByteRuns.{is_word}
use Rattle.resb_grammar.specs.Lexical.{Closer}
use Rattle.resb_diagnostics.specs.Braces.{backslash, mode_at, mode_behind, behind_token, has_tokens}
use Rattle.resb_diagnostics.specs.Pieces.{TextPiece, opening, closing, a_comma, word_start}
use Rattle.resb_diagnostics.specs.Groups.{groups_at, groups_behind}
use Rattle.resb_diagnostics.specs.Warnings.{warned, of_end, warning_at}
use Rattle.resb_diagnostics.specs.Inner.Looks.{text_piece_of, ShowsNesting}
use Rattle.resb_diagnostics.specs.declared.text_pieces.Token.{Token}
use Rattle.resb_diagnostics.specs.declared.warning.Warning.{Warning}
use Rattle.resb_diagnostics.specs.declared.warning.Scan.{Scan}
use Rattle.resb_diagnostics.specs.declared.warning.Reason.TheVariants as reason

-- a byte stands nowhere from one place on and before another
abbrev pub NoByte : ℕ → List ℕ → ℕ → ℕ → Type 0
NoByte b text from to = (k : ℕ) → from ≤ k → k < to → (slice_index text k == b) ≡ false

-- a byte stands at a place between these, and nowhere before it
pub record IsFirst (b : ℕ) (text : List ℕ) (from to at : ℕ) : Type 0 where
  pub order : from ≤ at
  pub fits : at < to
  pub stands : slice_index text at ≡ b
  pub none : NoByte b text from at

-- where a byte stands first between two places, if it does
abbrev pub IsFound : ℕ → List ℕ → ℕ → ℕ → Option ℕ → Type 0
IsFound b text from to None = NoByte b text from to
IsFound b text from to (Some at) = IsFirst b text from to at

-- neither a quote nor a backslash stands from one place on and before another
pub record IsPlain (text : List ℕ) (from to : ℕ) : Type 0 where
  pub quote : NoByte quote text from to
  pub backslash : NoByte backslash text from to

-- a quote or a backslash stands at a place, and neither before it
pub record StopsAt (text : List ℕ) (from at : ℕ) : Type 0 where
  pub order : from ≤ at
  pub fits : at < length text
  pub stands : (slice_index text at ≡ quote) ⊎ (slice_index text at ≡ backslash)
  pub plain : IsPlain text from at

-- where the first of both stands from a place on, if one does
abbrev pub IsStop : List ℕ → ℕ → Option ℕ → Type 0
IsStop text from None = IsPlain text from (length text)
IsStop text from (Some at) = StopsAt text from at

-- the byte at a place stands among tokens, and no slash before it begins a comment with it
pub record IsAmong (text : List ℕ) (at : ℕ) : Type 0 where
  pub tokens : has_tokens (mode_at text at) ≡ true
  pub next : mode_behind (mode_at text at) (slice_index text at)
      ≡ behind_token (slice_index text at)

-- the same, and no word goes on there
pub record IsBetween (text : List ℕ) (at : ℕ) : Type 0 where
  pub among : IsAmong text at
  pub word : is_word (slice_index text at) ≡ true → word_start text at ≡ at

-- the piece that is this byte at a place, if it is one
abbrev pub one_byte_piece : ℕ → ℕ → Option TextPiece
one_byte_piece n b =
    if b == left_brace then Some opening
    else (if b == right_brace then Some (closing n)
    else (if b == comma then Some (a_comma n) else None))

-- the warning of a backslash, if there is one
abbrev pub of_some_backslash : Option ℕ → List Warning
of_some_backslash None = []
of_some_backslash (Some place) = warning_at reason.Backslash place ∷ []

-- from one place to another there are these warnings of backslashes, and this piece, if one ends,
-- ends at the second
pub record Passes (text : List ℕ) (from to : ℕ) (told : List Warning) (piece : Option TextPiece) :
    Type 0 where
  pub order : from ≤ to
  pub fits : to ≤ length text
  pub groups : groups_at text to ≡ groups_behind piece (groups_at text from)
  pub found : warned text to
      ≡ warned text from ++ (told ++ of_end piece (groups_at text from))

-- the same, and the code can go on from the second place
pub record GoesOn (text : List ℕ) (from to : ℕ) (told : List Warning) (piece : Option TextPiece) :
    Type 0 where
  pub more : from < to
  pub passes : Passes text from to told piece
  pub between : to < length text → IsBetween text to

-- neither warning nor piece
abbrev pub IsQuiet : List ℕ → ℕ → ℕ → Type 0
IsQuiet text from to = GoesOn text from to [] None

-- what the token tells
abbrev pub IsToken : List ℕ → ℕ → Token → Type 0
IsToken text from t =
    GoesOn text from t.end (of_some_backslash t.backslash) (option_map text_piece_of t.piece)

-- a comment of a line goes on up to behind its line feed, or to the text's end
pub record IsLineRest (text : List ℕ) (from to : ℕ) : Type 0 where
  pub order : from ≤ to
  pub fits : to ≤ length text
  pub none : (k : ℕ) → from ≤ k → k + 1 < to → (slice_index text k == line_feed) ≡ false
  pub ends : to < length text → (from + 1 ≤ to) × (slice_index text (to - 1) ≡ line_feed)

-- a comment of stars goes on up to behind its `*/`, or to the text's end
pub record IsBlockRest (text : List ℕ) (from to : ℕ) : Type 0 where
  pub order : from ≤ to
  pub fits : to ≤ length text
  pub none : (k : ℕ) → from ≤ k → k + 2 < to → Closer text k → ⊥
  pub ends : to < length text → (from + 2 ≤ to) × Closer text (to - 2)

-- the code has read a text up to a place between pieces, or to its end
pub record HasScanned (s : Scan) (whole : List ℕ) : Type 0 where
  pub text : s.text.now ≡ whole
  pub fits : s.at ≤ length whole
  pub between : s.at < length whole → IsBetween whole s.at
  pub shows : ShowsNesting s.groups (groups_at whole s.at)
  pub found : s.found.items ≡ warned whole s.at
