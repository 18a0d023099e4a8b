-- What a handle stands for, and what is seen of a tree.
--     tree_at h               the tree for which a handle stands
--     tree_in o               the tree of an opened file
--     kind_of t               which of the seven kinds a tree is
--     members_in t, entries_in t, bytes_in t, text_of t, integer_in t
--                             what is inside a tree of one kind; nothing of any other
use Rattle.std.specs.Prelude.{ℕ, List, [], Option, Some, None}
use Rattle.resb_tree.specs.LayingOrder.{array_members}
use Rattle.resb_tree.specs.Tree.{Tree, string, alias, array, table, binary, integer, int_vector}
use Rattle.resb_tree.specs.Tree.{Entries, no_entries}
use Rattle.resb_opened.specs.declared.handle.Handle.{Handle}
use Rattle.resb_opened.specs.declared.kind.Kind.{Kind}
use Rattle.resb_opened.specs.declared.kind.Kind.TheVariants as kind
use Rattle.resb_opened.specs.declared.opened.Opened.{Opened}

-- the tree for which a handle stands
abbrev pub tree_at : Handle → Tree
tree_at h = h.stands.0

-- the tree of an opened file
abbrev pub tree_in : Opened → Tree
tree_in o = o.stands.0

-- which of the seven kinds a tree is
abbrev pub kind_of : Tree → Kind
kind_of (string s) = kind.String
kind_of (alias s) = kind.Alias
kind_of (array ts) = kind.Array
kind_of (table es) = kind.Table
kind_of (binary bytes) = kind.Binary
kind_of (integer n) = kind.Integer
kind_of (int_vector ns) = kind.IntVector

-- the members of an array, in their order; of any other tree none
abbrev pub members_in : Tree → List Tree
members_in (array ts) = array_members ts
members_in _ = []

-- the entries of a table, in the order of their keys; of any other tree none
abbrev pub entries_in : Tree → Entries
entries_in (table es) = es
entries_in _ = no_entries

-- the bytes of a binary, if the tree is one
abbrev pub bytes_in : Tree → Option (List ℕ)
bytes_in (binary bytes) = Some bytes
bytes_in _ = None

-- the text of a string, or the path of an alias, if the tree is one
abbrev pub text_of : Tree → Option (List ℕ)
text_of (string s) = Some s
text_of (alias s) = Some s
text_of _ = None

-- the number of an integer, if the tree is one
abbrev pub integer_in : Tree → Option ℕ
integer_in (integer n) = Some n
integer_in _ = None
