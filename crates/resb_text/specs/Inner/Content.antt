-- What a group without items holds, as the text says it.
use Rattle.std.specs.Prelude.{◌≢◌, List, ℕ, None, []}
use Rattle.std.specs.Option.{unwrap_or}
use Rattle.resb_tree.specs.Tree.{Tree, string, binary, integer, int_vector}
use Rattle.resb_grammar.specs.Group.{hex_bytes}
use Rattle.resb_text.specs.declared.content.Content.{Content}
use Rattle.resb_text.specs.declared.content.Content.TheVariants as variant

-- these are pairs of hex digits
abbrev pub ArePairs : List ℕ → Type 0
ArePairs digits = hex_bytes digits ≢ None

-- the digits of a binary are pairs
abbrev pub IsPaired : Content → Type 0
IsPaired (variant.Binary digits) = ArePairs digits.now
IsPaired _ = Unit

-- the tree that such a content is
abbrev pub tree_of_content : Content → Tree
tree_of_content (variant.String s) = string s.now
tree_of_content (variant.Binary digits) = binary (unwrap_or (hex_bytes digits.now) [])
tree_of_content (variant.Integer n) = integer n
tree_of_content (variant.IntVector v) = int_vector v.items
