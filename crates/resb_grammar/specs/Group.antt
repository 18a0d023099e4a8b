-- Groups and their items, as least relations on a text and two places.
use Rattle.std.specs.Prelude.{◌≡◌, ℕ, ◌+◌, ◌*◌, ◌%◌, ◌^◌, Bool, true, false, ◌&&◌, List, []}
use Rattle.std.specs.Prelude.{◌∷◌, ◌++◌, Option, Some, None, slice_index}
use Rattle.std.specs.Char.{is_digit, digit_value}
use Rattle.std.specs.Option.{option_map}
use Rattle.resb_grammar.specs.Ascii as ascii
use Rattle.resb_tree.specs.Tree.{Tree, string, binary, integer, int_vector}
use Rattle.resb_grammar.specs.Lexical.{Skip, Text, Number}
use Rattle.resb_grammar.specs.Items.{Term, string_term, group_term, Item, plain, before_comma}
use Rattle.resb_grammar.specs.Items.{is_pairs, a_table, an_array, shape_of, tree_in, keys_in}
use Rattle.resb_grammar.specs.GroupTypes.{Kind, string_kind, array_kind, table_kind, binary_kind}
use Rattle.resb_grammar.specs.GroupTypes.{integer_kind, vector_kind, TypedOpening}

-- hex digits, of either case
abbrev pub is_hex : ℕ → Bool
is_hex b = is_digit b 16

-- a byte in front of others, where the byte was good and the others are some
abbrev pub byte_before : Bool → ℕ → Option (List ℕ) → Option (List ℕ)
byte_before true b rest = option_map (λ bytes. b ∷ bytes) rest
byte_before false b rest = None

-- the bytes that whole pairs of hex digits say, the first digit of a pair being the higher one
abbrev pub hex_bytes : List ℕ → Option (List ℕ)
hex_bytes [] = Some []
hex_bytes (h ∷ []) = None
hex_bytes (h ∷ l ∷ rest) =
    byte_before (is_hex h && is_hex l) (digit_value h * 16 + digit_value l) (hex_bytes rest)

-- numbers with one comma between two of them
pub data Numbers (text : List ℕ) (from : ℕ) : ℕ → List ℕ → Type 0 where
  first_number : (i to v : ℕ) → Number text from i v → Skip text i to
      → Numbers text from to (v ∷ [])
  next_number : (i j k to v : ℕ) (ns : List ℕ) → Numbers text from i ns
      → slice_index text i ≡ ascii.comma → Skip text (i + 1) j → Number text j k v → Skip text k to
      → Numbers text from to (ns ++ v ∷ [])

-- the content of `:intvector{..}`: at most one comma follows the numbers, of which there may be
-- none
pub data Vector (text : List ℕ) (from : ℕ) : ℕ → List ℕ → Type 0 where
  empty : Vector text from from []
  lone_comma : (to : ℕ) → slice_index text from ≡ ascii.comma → Skip text (from + 1) to
      → Vector text from to []
  numbers : (to : ℕ) (ns : List ℕ) → Numbers text from to ns → Vector text from to ns
  numbers_comma : (i to : ℕ) (ns : List ℕ) → Numbers text from i ns
      → slice_index text i ≡ ascii.comma → Skip text (i + 1) to → Vector text from to ns

-- the content of a group that holds no items
pub data LeafContent (text : List ℕ) (from to : ℕ) : Kind → Tree → Type 0 where
  string_content : (i : ℕ) (s : List ℕ) → Text text from i s → Skip text i to
      → LeafContent text from to string_kind (string s)
  binary_content : (i : ℕ) (s bytes : List ℕ) → Text text from i s → hex_bytes s ≡ Some bytes
      → Skip text i to → LeafContent text from to binary_kind (binary bytes)
  integer_content : (i v : ℕ) → Number text from i v → Skip text i to
      → LeafContent text from to integer_kind (integer (v % 2 ^ 28))
  vector_content : (ns : List ℕ) → Vector text from to ns
      → LeafContent text from to vector_kind (int_vector ns)

mutual
  -- the items between two places, strings and groups, each with a mark that says whether one comma
  -- follows it, and with the discardable text after each
  pub data Items (text : List ℕ) : ℕ → ℕ → List Item → Type 0 where
    nothing : (at : ℕ) → Items text at at []
    string_item : (from i j to : ℕ) (xs : List Item) (s : List ℕ) → Items text from i xs
        → Text text i j s → Skip text j to → Items text from to (plain (string_term s) ∷ xs)
    group_item : (from i j to : ℕ) (xs : List Item) (t : Tree) (ks : List (List ℕ))
        → Items text from i xs → Group text i j t ks → Skip text j to
        → Items text from to (plain (group_term t ks) ∷ xs)
    comma : (from i to : ℕ) (xs : List Item) (m : Term) → Items text from i (plain m ∷ xs)
        → slice_index text i ≡ ascii.comma → Skip text (i + 1) to
        → Items text from to (before_comma m ∷ xs)

  -- a group with its tree, and the keys of its tables in order of place
  pub data Group (text : List ℕ) : ℕ → ℕ → Tree → List (List ℕ) → Type 0 where
    untyped : (from i k : ℕ) (xs : List Item) → slice_index text from ≡ ascii.left_brace
        → Skip text (from + 1) i → Items text i k xs → slice_index text k ≡ ascii.right_brace
        → Group text from (k + 1) (tree_in (shape_of xs) xs) (keys_in (shape_of xs) xs)
    typed_table : (from i k : ℕ) (xs : List Item) → TypedOpening text from table_kind i
        → Items text i k xs
        → is_pairs xs ≡ true → slice_index text k ≡ ascii.right_brace
        → Group text from (k + 1) (tree_in a_table xs) (keys_in a_table xs)
    typed_array : (from i k : ℕ) (xs : List Item) → TypedOpening text from array_kind i
        → Items text i k xs
        → slice_index text k ≡ ascii.right_brace
        → Group text from (k + 1) (tree_in an_array xs) (keys_in an_array xs)
    typed_leaf : (from i k : ℕ) (kind : Kind) (t : Tree) → TypedOpening text from kind i
        → LeafContent text i k kind t → slice_index text k ≡ ascii.right_brace
        → Group text from (k + 1) t []
