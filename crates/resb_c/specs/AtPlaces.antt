-- What stands at a place of a file, as the caller in C gets it.
--     content_from parts spot     what stands there
--     kind_number c, size_in c    its kind, as the header numbers it, and how much is in it
--     found_kind s            the kind of what is found in a tree
--     spot_refusal parts spot     why what stands there isn't read
--     HasKey, HasBadKey p number  the key of an entry, and why it isn't read
use Rattle.std.specs.Prelude.{◌≡◌, ◌≤◌, ℕ, List, ◌∷◌, length, drop, Option, Some, None}
use Rattle.std.specs.Prelude.{option_map}
use Rattle.resb_tree.specs.Tree.{Tree, string, alias, array, table, binary, integer, int_vector}
use Rattle.resb_format.specs.Content.{Content, Member, leaf, list, entry_list, content_at}
use Rattle.resb_format.specs.Content.{text_leaf}
use Rattle.resb_format.specs.Error.{Refusal, end_of_input}
use Rattle.resb_format.specs.Lookups.{index_in, key_in}
use Rattle.resb_format.specs.declared.error.ReadingError.{ReadingError}
use Rattle.resb_format.specs.Parts.{Parts}
use Rattle.resb_walk.specs.BlockRefusals.{word_refusal, text_refusal_in, key_refusal_in, Says}
use Rattle.resb_path.specs.Finding as finding
use Rattle.resb_read.specs.declared.cursor.Spot.{Spot}
use Rattle.resb_read.specs.declared.cursor.Spot.TheVariants as spot

-- what stands at a spot: at a descriptor what it leads to, at a unit its string; a number of a
-- vector and a key are no resource
abbrev pub content_from : Parts → Spot → Option Content
content_from p (spot.Descriptor w) = content_at p w
content_from p (spot.Unit u) = text_leaf p (index_in p u)
content_from p (spot.Word n) = None
content_from p (spot.Key k) = None

-- the number of a tree's kind: a string is 1, a table 2, an array 3, an integer 4, a vector 5, a
-- binary 6, an alias 7
abbrev pub tree_kind : Tree → ℕ
tree_kind (string s) = 1
tree_kind (table es) = 2
tree_kind (array ts) = 3
tree_kind (integer n) = 4
tree_kind (int_vector ns) = 5
tree_kind (binary bytes) = 6
tree_kind (alias s) = 7

-- the number of the kind of what is found in a tree: a number of a vector is an integer
abbrev pub found_kind : finding.Spot → ℕ
found_kind (finding.tree_spot t) = tree_kind t
found_kind (finding.number_spot n) = 4

-- the number of the kind of what stands there
abbrev pub kind_number : Content → ℕ
kind_number (leaf t) = tree_kind t
kind_number (list ms) = 3
kind_number (entry_list es) = 2

-- how many bytes a binary has, and how many numbers a vector; of any other leaf none are told
abbrev pub leaf_size : Tree → ℕ
leaf_size (binary bytes) = length bytes
leaf_size (int_vector ns) = length ns
leaf_size (string s) = 0
leaf_size (alias s) = 0
leaf_size (array ts) = 0
leaf_size (table es) = 0
leaf_size (integer n) = 0

-- how many members, entries, bytes or numbers are there
abbrev pub size_in : Content → ℕ
size_in (leaf t) = leaf_size t
size_in (list ms) = length ms
size_in (entry_list es) = length es

-- why what stands at a spot of a resource isn't read; a key is none, and lies elsewhere
abbrev pub spot_refusal : Parts → Spot → Refusal
spot_refusal p (spot.Descriptor w) = word_refusal p w
spot_refusal p (spot.Unit u) = text_refusal_in p (index_in p u)
spot_refusal p (spot.Word n) = end_of_input
spot_refusal p (spot.Key k) = end_of_input

-- behind so many entries one stands whose key has this position
abbrev pub IsBehind : List (ℕ × Member) → ℕ → ℕ → Type 0
IsBehind es number position =
    (member : Member) × (later : List (ℕ × Member))
    × (drop number es ≡ (position, member) ∷ later)

-- the entry behind so many others has this key
abbrev pub HasKey : Parts → ℕ → List ℕ → List (ℕ × Member) → Type 0
HasKey p number key es =
    (position : ℕ) × IsBehind es number position × (key_in p position ≡ Some key)

-- it has no key that can be read, as this refusal says
abbrev pub HasBadKey : Parts → ℕ → ReadingError → List (ℕ × Member) → Type 0
HasBadKey p number e es =
    (position : ℕ) × IsBehind es number position × (key_in p position ≡ None)
    × Says (key_refusal_in p position) e

-- there are no more entries than so many
abbrev pub LacksEntry : ℕ → List (ℕ × Member) → Type 0
LacksEntry number es = length es ≤ number
