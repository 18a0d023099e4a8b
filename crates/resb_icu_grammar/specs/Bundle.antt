-- Texts of bundles in ICU's form: perhaps a mark, a name, the root's type, the entries, and perhaps
-- a text behind the bundle.
use Rattle.std.specs.Prelude.{◌≡◌, ◌≤◌, ◌<◌, ◌+◌, ◌==◌, ◌&&◌, ◌||◌, ℕ, Bool, true, false, List}
use Rattle.std.specs.Prelude.{length, slice_index}
use Rattle.resb_grammar.specs.Ascii as ascii
use Rattle.resb_grammar.specs.BundleText.{first_places}
use Rattle.resb_tree.specs.Tree.{Tree, table, map_of}
use Rattle.resb_icu_grammar.specs.Blanks.{Begins, Skip}
use Rattle.resb_icu_grammar.specs.Bytes.{backslash}
use Rattle.resb_icu_grammar.specs.Words.{Name, RootType}
use Rattle.resb_icu_grammar.specs.Groups.{Entries}

-- the root's type, if it has one, and the blanks after it
pub data Typing (text : List ℕ) (from to : ℕ) : Bool → Type 0 where
  without : from ≡ to → Typing text from to true
  with : (i : ℕ) (fallback : Bool) → RootType text from i fallback → Skip text i to
      → Typing text from to fallback

-- a bundle's text up to its first entry
pub record Header (text name : List ℕ) (fallback : Bool) (to : ℕ) : Type 0 where
  pub begin : ℕ
  pub start : ℕ
  pub ends : ℕ
  pub place : ℕ
  pub brace : ℕ
  pub begins : Begins text begin
  pub before : Skip text begin start
  pub named : Name text start ends name
  pub between : Skip text ends place
  pub typed : Typing text place brace fallback
  pub opens : slice_index text brace ≡ ascii.left_brace
  pub after : Skip text (brace + 1) to

-- what no text behind a bundle has: a backslash, or the `/` of a `/*`
abbrev pub is_barred : List ℕ → ℕ → Bool
is_barred text at =
    slice_index text at == backslash
    || (slice_index text at == ascii.slash && slice_index text (at + 1) == ascii.star)

-- what stands behind the root's `}`: blanks, and perhaps a text, which has no backslash and no `/*`
pub record Ending (text : List ℕ) (from : ℕ) : Type 0 where
  pub to : ℕ
  pub before : Skip text from to
  pub free : (k : ℕ) → to ≤ k → k < length text → is_barred text k ≡ false

-- the text is a bundle of this name, fallback and tree, with these keys in order of place, each at
-- its first place alone: perhaps a mark, a name, perhaps the root's type, `{`, entries, `}`, and
-- what may stand behind a bundle
pub record IcuText (text name : List ℕ) (fallback : Bool) (tree : Tree)
    (keys : List (List ℕ)) : Type 0 where
  pub first : ℕ
  pub last : ℕ
  pub entries : List (List ℕ × Tree)
  pub places : List (List ℕ)
  pub header : Header text name fallback first
  pub body : Entries text first last entries places
  pub closes : slice_index text last ≡ ascii.right_brace
  pub after : Ending text (last + 1)
  pub means : tree ≡ table (map_of entries)
  pub lists : keys ≡ first_places places
