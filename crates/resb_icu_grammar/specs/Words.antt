-- Strings, keys, numbers and types of ICU's text form, each between two places. A type and a number
-- are words, which have fewer characters than an unquoted string may have.
use Rattle.std.specs.Prelude.{◌≡◌, ◌≢◌, ◌≤◌, ◌<◌, ◌+◌, ◌==◌, ◌&&◌, not, ℕ, Bool, true, false}
use Rattle.std.specs.Prelude.{List, ◌∷◌, ◌++◌, length, slice_index, slice_range, codes}
use Rattle.std.specs.Prelude.{if◌then◌else◌}
use Rattle.resb_grammar.specs.Ascii as ascii
use Rattle.resb_grammar.specs.ByteRuns.{Run}
use Rattle.resb_grammar.specs.GroupTypes.{NoFallback}
use Rattle.resb_icu_grammar.specs.Blanks.{Skip}
use Rattle.resb_icu_grammar.specs.Bytes.{is_word, are_key_bytes, backslash}
pub use Rattle.resb_icu_grammar.specs.Numbers.{Number}
use Rattle.resb_icu_grammar.specs.Kinds.{Kind, Names}
use Rattle.resb_icu_grammar.specs.Pieces.{Joined, QuotedPiece}
use Rattle.resb_icu_grammar.specs.Unquoted.{Unquoted, UnquotedRow, begins_unquoted}

-- a longest run of at least one word character
pub record Word (text : List ℕ) (from to : ℕ) (bytes : List ℕ) : Type 0 where
  pub run : Run is_word text from to
  pub some : from < to
  pub means : bytes ≡ slice_range text from to

-- a part of a string: unquoted ones in a row, or all quoted pieces in a row
pub data Part (text : List ℕ) (from to : ℕ) (bytes : List ℕ) : Type 0 where
  a_row : UnquotedRow text from to bytes → Part text from to bytes
  quoted : Joined text from to bytes → Part text from to bytes

-- behind a part that begins at a place and says this, with blanks behind it up to another place, a
-- part of the other kind follows there: behind a row a quoted piece, and behind quoted pieces that
-- say something an unquoted string
abbrev pub another_follows : List ℕ → ℕ → List ℕ → ℕ → Bool
another_follows text from bytes next =
    if slice_index text from == ascii.quote
    then not (length bytes == 0) && begins_unquoted text next
    else slice_index text next == ascii.quote

-- a string: parts of the two kinds in turn, joined by one blank each
pub data Text (text : List ℕ) : ℕ → ℕ → List ℕ → Type 0 where
  one_part : (from to next : ℕ) (bytes : List ℕ) → Part text from to bytes → Skip text to next
      → another_follows text from bytes next ≡ false → Text text from to bytes
  more_parts : (from mid next to : ℕ) (bytes later : List ℕ) → Part text from mid bytes
      → Skip text mid next → another_follows text from bytes next ≡ true → Text text next to later
      → Text text from to (bytes ++ ascii.space ∷ later)

-- between these places stands no backslash
abbrev pub HasNoEscape : List ℕ → ℕ → ℕ → Type 0
HasNoEscape text from to = (k : ℕ) → from ≤ k → k < to → slice_index text k ≢ backslash

-- a string that stands in the text as it is: an unquoted one, or one quoted piece without a
-- backslash, with no other behind it
pub data Verbatim (text : List ℕ) (from to : ℕ) (bytes : List ℕ) : Type 0 where
  a_word : UnquotedRow text from to bytes → Unquoted text from to bytes
      → Verbatim text from to bytes
  a_piece : Joined text from to bytes → QuotedPiece text from to bytes → HasNoEscape text from to
      → Verbatim text from to bytes

-- a string that may be a key: it stands in the text as it is, and each of its bytes may stand in a
-- key
pub record KeyText (text : List ℕ) (from to : ℕ) (bytes : List ℕ) : Type 0 where
  pub whole : Text text from to bytes
  pub verbatim : Verbatim text from to bytes
  pub fits : are_key_bytes bytes ≡ true

-- the name of a bundle: a word, or one quoted piece of word characters, of which there are some
pub record Name (text : List ℕ) (from to : ℕ) (bytes : List ℕ) : Type 0 where
  pub key : KeyText text from to bytes
  pub some : 0 < length bytes
  pub word : Run is_word bytes 0 (length bytes)

-- `:` and a word, with nothing but blanks between them
pub record TypeName (text : List ℕ) (from to : ℕ) (name : List ℕ) : Type 0 where
  pub place : ℕ
  pub colon : slice_index text from ≡ ascii.colon
  pub between : Skip text (from + 1) place
  pub word : Word text place to name

-- the type of a group: a colon and the word of a type, with nothing but blanks between them
pub record GroupType (text : List ℕ) (from to : ℕ) (kind : Kind) : Type 0 where
  pub name : List ℕ
  pub stands : TypeName text from to name
  pub names : Names name kind

-- the type of the root, and whether fallback stays on
pub data RootType (text : List ℕ) (from to : ℕ) : Bool → Type 0 where
  table_type : TypeName text from to (codes "table") → (NoFallback text to → ⊥)
      → RootType text from to true
  no_fallback_type : (i : ℕ) → TypeName text from i (codes "table") → NoFallback text i
      → to ≡ i + 12 → RootType text from to false
