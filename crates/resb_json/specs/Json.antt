-- The JSON of a tree: objects by key, arrays, strings and signed numbers; bytes are an object with
-- the one member `binary`, their hex digits, and an alias is one with the member `alias`, its path.
use Rattle.std.specs.Prelude.{ℕ, map, codes}
use Rattle.std.specs.Int.{cast_signed, w32}
use Rattle.hex.specs.Hex.{encode_lower}
use Rattle.serde_json.specs.Data.{Data, number, string, array, object, Items, no_items, item}
use Rattle.serde_json.specs.Data.{Members, no_members, member, put}
use Rattle.serde_json.specs.Find.{of_integer}
use Rattle.serde_json.specs.View.{items_of}
use Rattle.resb_tree.specs.Tree as tree
use Rattle.resb_tree.specs.Tree.{Tree, Trees, no_trees, more_trees, Entries, no_entries, entry}
use Rattle.resb_tree.specs.Int28.{signed}

-- a number of a vector, as a signed one of 32 bits
abbrev pub vector_number : ℕ → Data
vector_number n = number (of_integer (cast_signed w32 n))

abbrev mutual
  -- the JSON of a tree: objects by key, arrays, strings, signed numbers, and bytes and aliases as
  -- objects of one member
  pub json_of : Tree → Data
  json_of (tree.string s) = string s
  json_of (tree.alias s) = object (member (codes "alias") (string s) no_members)
  json_of (tree.array ts) = array (members_json ts)
  json_of (tree.table es) = object (entries_json no_members es)
  json_of (tree.binary bytes) =
      object (member (codes "binary") (string (encode_lower bytes)) no_members)
  json_of (tree.integer n) = number (of_integer (signed n))
  json_of (tree.int_vector ns) = array (items_of (map vector_number ns))

  -- the members of an array, in its order
  pub members_json : Trees → Items
  members_json no_trees = no_items
  members_json (more_trees t ts) = item (json_of t) (members_json ts)

  -- the members of an object, with the entries of a table put in turn
  pub entries_json : Members → Entries → Members
  entries_json ms no_entries = ms
  entries_json ms (entry k t es) = entries_json (put k (json_of t) ms) es
