-- Groups of ICU's text form: what a group without a type is, the members of arrays and the entries
-- of tables, as least relations on a text and two places.
use Rattle.std.specs.Prelude.{◌≡◌, ◌⊎◌, ◌+◌, ◌%◌, ◌^◌, ◌&&◌, not, ℕ, Bool, true, false}
use Rattle.std.specs.Prelude.{List, [], ◌∷◌, ◌++◌, Option, Some, None, slice_index}
use Rattle.std.specs.Prelude.{nat_eq, ◌*◌, ◌==◌, if◌then◌else◌}
use Rattle.std.specs.List.{list_any}
use Rattle.std.specs.Cmp.Lexicographic.{pointwise}
use Rattle.std.specs.Char.{digit_value}
use Rattle.resb_grammar.specs.Ascii as ascii
use Rattle.resb_grammar.specs.Group.{is_hex, byte_before, hex_bytes}
use Rattle.resb_tree.specs.Tree.{Tree, string, alias, array, table, binary, integer}
use Rattle.resb_tree.specs.Tree.{int_vector, trees_of, map_of}
use Rattle.resb_icu_grammar.specs.Blanks.{Skip}
use Rattle.resb_icu_grammar.specs.Kinds.{Kind, string_kind, alias_kind, array_kind, table_kind}
use Rattle.resb_icu_grammar.specs.Kinds.{binary_kind, integer_kind, vector_kind}
use Rattle.resb_icu_grammar.specs.Words.{Text, one_part, more_parts, KeyText, Number, GroupType}

-- a type, its `{`, and the blanks around that
pub record TypedOpening (text : List ℕ) (from : ℕ) (kind : Kind) (to : ℕ) : Type 0 where
  pub ends : ℕ
  pub brace : ℕ
  pub named : GroupType text from ends kind
  pub between : Skip text ends brace
  pub opens : slice_index text brace ≡ ascii.left_brace
  pub after : Skip text (brace + 1) to

-- numbers with one comma between two of them, and perhaps one behind the last
pub data Numbers (text : List ℕ) : ℕ → ℕ → List ℕ → Type 0 where
  last_number : (from i to v : ℕ) → Number text from i v → Skip text i to
      → Numbers text from to (v ∷ [])
  last_comma : (from i j to v : ℕ) → Number text from i v → Skip text i j
      → slice_index text j ≡ ascii.comma → Skip text (j + 1) to → Numbers text from to (v ∷ [])
  one_more : (from i j k to v : ℕ) (ns : List ℕ) → Number text from i v → Skip text i j
      → slice_index text j ≡ ascii.comma → Skip text (j + 1) k → Numbers text k to ns
      → Numbers text from to (v ∷ ns)

-- the bytes that pairs of hex digits say, with blanks before a pair and behind it
abbrev pub spaced_bytes : List ℕ → Option (List ℕ)
spaced_bytes [] = Some []
spaced_bytes (h ∷ []) = if h == ascii.space then Some [] else None
spaced_bytes (h ∷ l ∷ rest) =
    if h == ascii.space then spaced_bytes (l ∷ rest)
    else byte_before (is_hex h && is_hex l) (digit_value h * 16 + digit_value l) (spaced_bytes rest)

-- the bytes that a part at a place says as pairs of hex digits: unquoted strings in a row are
-- joined by blanks, and none of these may stand in a pair; quoted pieces have none
abbrev pub digit_bytes : List ℕ → ℕ → List ℕ → Option (List ℕ)
digit_bytes text from s =
    if slice_index text from == ascii.quote then hex_bytes s else spaced_bytes s

-- those that a string says: that of several parts says none
abbrev pub digits_of : {text : List ℕ} {from to : ℕ} {s : List ℕ} → Text text from to s
    → Option (List ℕ)
digits_of {text} (one_part from to next s part after alone) = digit_bytes text from s
digits_of (more_parts from mid next to s later part after more rest) = None

-- the content of a group that holds neither members nor entries
pub data LeafContent (text : List ℕ) (from to : ℕ) : Kind → Tree → Type 0 where
  string_content : (i : ℕ) (s : List ℕ) → Text text from i s → Skip text i to
      → LeafContent text from to string_kind (string s)
  alias_content : (i : ℕ) (s : List ℕ) → Text text from i s → Skip text i to
      → LeafContent text from to alias_kind (alias s)
  binary_content : (i : ℕ) (s bytes : List ℕ) → (t : Text text from i s)
      → digits_of t ≡ Some bytes → Skip text i to
      → LeafContent text from to binary_kind (binary bytes)
  integer_content : (i v : ℕ) → Number text from i v → Skip text i to
      → LeafContent text from to integer_kind (integer (v % 2 ^ 28))
  no_numbers : from ≡ to → LeafContent text from to vector_kind (int_vector [])
  numbers : (ns : List ℕ) → Numbers text from to ns
      → LeafContent text from to vector_kind (int_vector ns)

-- what stands last among the members so far: nothing, a string, a group, or the comma behind one
pub data Last : Type 0 where
  nothing : Last
  a_string : Last
  a_group : Last
  a_comma : Last

-- a member stands last, with no comma behind it
abbrev pub is_member : Last → Bool
is_member a_string = true
is_member a_group = true
is_member _ = false

-- a string stands last, with no comma behind it
abbrev pub ends_in_string : Last → Bool
ends_in_string a_string = true
ends_in_string _ = false

-- a group without a type is an array by what it begins with: a group, or a string and a comma
pub data BeginsArray (text : List ℕ) (at : ℕ) : Type 0 where
  with_a_group : (slice_index text at ≡ ascii.left_brace) ⊎ (slice_index text at ≡ ascii.colon)
      → BeginsArray text at
  with_a_string : (i k : ℕ) (s : List ℕ) → Text text at i s → Skip text i k
      → slice_index text k ≡ ascii.comma → BeginsArray text at

-- among these entries none has this key
abbrev pub is_new : List ℕ → List (List ℕ × Tree) → Bool
is_new key entries = not (list_any (λ e. pointwise nat_eq key e.0) entries)

mutual
  -- the members of an array behind what stands last, and the keys of their tables in order of
  -- place; no string stands right behind a string, and one comma may follow a member
  pub data Members (text : List ℕ) : Last → ℕ → ℕ → List Tree → List (List ℕ) → Type 0 where
    no_member : (last : Last) (at : ℕ) → Members text last at at [] []
    string_member : (last : Last) (from i j to : ℕ) (s : List ℕ) (ts : List Tree)
        (ks : List (List ℕ)) → ends_in_string last ≡ false → Text text from i s → Skip text i j
        → Members text a_string j to ts ks → Members text last from to (string s ∷ ts) ks
    group_member : (last : Last) (from i j to : ℕ) (t : Tree) (js ks : List (List ℕ))
        (ts : List Tree) → Group text from i t js → Skip text i j → Members text a_group j to ts ks
        → Members text last from to (t ∷ ts) (js ++ ks)
    comma_behind : (last : Last) (from j to : ℕ) (ts : List Tree) (ks : List (List ℕ))
        → is_member last ≡ true → slice_index text from ≡ ascii.comma → Skip text (from + 1) j
        → Members text a_comma j to ts ks → Members text last from to ts ks

  -- the entries of a table in order of place, each key once, and the keys in order of place
  pub data Entries (text : List ℕ) : ℕ → ℕ → List (List ℕ × Tree) → List (List ℕ) → Type 0 where
    no_entry : (at : ℕ) → Entries text at at [] []
    one_entry : (from i j m n to : ℕ) (k : List ℕ) (t : Tree) (es : List (List ℕ × Tree))
        (js ks : List (List ℕ)) → KeyText text from i k → Skip text i j → Group text j m t js
        → Skip text m n → Entries text n to es ks
        → is_new k es ≡ true → Entries text from to ((k, t) ∷ es) (k ∷ js ++ ks)

  -- what stands in a group without a type
  pub data Untyped (text : List ℕ) : ℕ → ℕ → Tree → List (List ℕ) → Type 0 where
    -- nothing: an array
    an_empty_array : (at : ℕ) → Untyped text at at (array (trees_of [])) []
    -- one string
    one_string : (from i to : ℕ) (s : List ℕ) → Text text from i s → Skip text i to
        → Untyped text from to (string s) []
    -- an array, which begins with a group, or with a string and a comma
    an_array : (from to : ℕ) (ts : List Tree) (ks : List (List ℕ)) → BeginsArray text from
        → Members text nothing from to ts ks → Untyped text from to (array (trees_of ts)) ks
    -- a table, which has an entry
    a_table : (from to : ℕ) (e : List ℕ × Tree) (es : List (List ℕ × Tree)) (ks : List (List ℕ))
        → Entries text from to (e ∷ es) ks → Untyped text from to (table (map_of (e ∷ es))) ks

  -- what stands in a group with a type
  pub data Typed (text : List ℕ) : Kind → ℕ → ℕ → Tree → List (List ℕ) → Type 0 where
    members : (from to : ℕ) (ts : List Tree) (ks : List (List ℕ))
        → Members text nothing from to ts ks
        → Typed text array_kind from to (array (trees_of ts)) ks
    entries : (from to : ℕ) (es : List (List ℕ × Tree)) (ks : List (List ℕ))
        → Entries text from to es ks → Typed text table_kind from to (table (map_of es)) ks
    leaf : (kind : Kind) (from to : ℕ) (t : Tree) → LeafContent text from to kind t
        → Typed text kind from to t []

  -- a group with its tree, and the keys of its tables in order of place
  pub data Group (text : List ℕ) : ℕ → ℕ → Tree → List (List ℕ) → Type 0 where
    untyped : (from i k : ℕ) (t : Tree) (ks : List (List ℕ))
        → slice_index text from ≡ ascii.left_brace → Skip text (from + 1) i → Untyped text i k t ks
        → slice_index text k ≡ ascii.right_brace → Group text from (k + 1) t ks
    typed : (from i k : ℕ) (kind : Kind) (t : Tree) (ks : List (List ℕ))
        → TypedOpening text from kind i
        → Typed text kind i k t ks → slice_index text k ≡ ascii.right_brace
        → Group text from (k + 1) t ks
