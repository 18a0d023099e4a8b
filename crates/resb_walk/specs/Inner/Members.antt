-- The members and entries that are still to come, and the tree of a leaf.
use Rattle.std.specs.Prelude.{◌≡◌, ℕ, ◌%◌, ◌^◌, List, [], map, length, encode_utf8_all, false}
use Rattle.std.specs.List.{zip}
use Rattle.std.specs.Char.Utf16.{utf16_lossy_chars, has_unpaired_surrogate}
use Rattle.resb_tree.specs.Tree.{Tree, string, alias, binary, integer, int_vector}
use Rattle.resb_format.specs.Bytes.{units_of, words_of}
use Rattle.resb_format.specs.Content as at
use Rattle.resb_format.specs.Lookups.{wide_position}
use Rattle.resb_walk.specs.declared.members.Leaf.{Leaf}
use Rattle.resb_walk.specs.declared.members.Leaf.TheVariants.{Text, Empty, Alias, Binary, Integer}
use Rattle.resb_walk.specs.declared.members.Leaf.TheVariants.{Numbers}
use Rattle.resb_walk.specs.declared.members.Member.{Member}
use Rattle.resb_walk.specs.declared.members.Member.TheVariants as one
use Rattle.resb_walk.specs.declared.members.Members.{Members}
use Rattle.resb_walk.specs.declared.members.Members.TheVariants as some
use Rattle.resb_walk.specs.declared.members.Positions.{Positions}
use Rattle.resb_walk.specs.declared.members.Positions.TheVariants.{Halves, Wholes}
use Rattle.resb_walk.specs.declared.members.TableParts.{TableParts}
use Rattle.resb_walk.specs.declared.members.Rest.{Rest}
use Rattle.resb_walk.specs.declared.members.Rest.TheVariants as rest
use Rattle.resb_walk.specs.declared.members.Standing.{Standing}
use Rattle.resb_walk.specs.declared.members.Standing.TheVariants as kind

-- the text of a string's bytes, which are well-formed UTF-16
abbrev pub text_of_bytes : List ℕ → List ℕ
text_of_bytes bs = encode_utf8_all (utf16_lossy_chars (units_of bs))

-- the bytes are whole units of 16 bits, and these are UTF-16: no half of a pair stands alone
abbrev pub AreUtf16 : List ℕ → Type 0
AreUtf16 bs = (length bs % 2 ≡ 0) × (has_unpaired_surrogate (units_of bs) ≡ false)

-- the tree of what stands at a word without members
abbrev pub leaf_tree : Leaf → Tree
leaf_tree (Text b) = string (text_of_bytes b.now)
leaf_tree (Binary b) = binary b.now
leaf_tree (Integer w) = integer (w % 2 ^ 28)
leaf_tree (Numbers b) = int_vector (words_of b.now)
leaf_tree Empty = string []
leaf_tree (Alias b) = alias (text_of_bytes b.now)

-- a member that was read: the same word or unit
abbrev pub member_of : Member → at.Member
member_of (one.Word w) = at.word w
member_of (one.Unit u) = at.unit u

-- the members: words or 16-bit units
abbrev pub members_of : Members → List at.Member
members_of (some.Words b) = map at.word (words_of b.now)
members_of (some.Units b) = map at.unit (units_of b.now)

-- the positions of a table's keys, of 16 or of 32 bits each, as entries have them
abbrev pub positions_of : Positions → List ℕ
positions_of (Halves b) = units_of b.now
positions_of (Wholes b) = map wide_position (words_of b.now)

-- each member with the position of its key
abbrev pub keyed_members : TableParts → List (ℕ × at.Member)
keyed_members s = zip (positions_of s.keys) (members_of s.members)

abbrev pub content_of : Standing → at.Content
content_of (kind.Leaf l) = at.leaf (leaf_tree l)
content_of (kind.List ms) = at.list (members_of ms)
content_of (kind.Table ps) = at.entry_list (keyed_members ps)

-- the bytes of a text, or of an alias's path, are UTF-16, and those of numbers are whole words
abbrev pub IsWellSpelled : Standing → Type 0
IsWellSpelled (kind.Leaf (Text b)) = AreUtf16 b.now
IsWellSpelled (kind.Leaf (Alias b)) = AreUtf16 b.now
IsWellSpelled (kind.Leaf (Numbers b)) = length b.now % 4 ≡ 0
IsWellSpelled _ = Unit {0}

-- how many members are still to come
abbrev pub rest_length : Rest → ℕ
rest_length (rest.List ms) = length (members_of ms)
rest_length (rest.Table es) = length (keyed_members es)
