-- What is known of a resource by its handle, and what its handle gives.
--     IsNode ms es n t        the node n is one of the tree t
--     AreWords ns             each number is one of 32 bits
--     text_in t               the text of a string, the path of an alias
--     numbers_in t            the numbers of a vector
--     AddsFront old new text  a front of the text was put behind what stood
use Rattle.std.specs.Prelude.{◌≡◌, ◌<◌, ◌^◌, ◌++◌, ℕ, List, [], length, slice_index}
use Rattle.resb_tree.specs.Tree.{Tree, string, alias, array, table, binary, integer, int_vector}
use Rattle.resb_tree.specs.Tree.{Trees, Entries as TableEntries}
use Rattle.resb_tree.specs.Maps.{IsMap}
use Rattle.resb_shown.specs.declared.node.Node.{Node}
use Rattle.resb_shown.specs.declared.node.Node.TheVariants.{String, Alias, Array, Table, Binary}
use Rattle.resb_shown.specs.declared.node.Node.TheVariants.{Integer, IntVector}

-- the text of a string, or the path of an alias; nothing of any other tree
abbrev pub text_in : Tree → List ℕ
text_in (string s) = s
text_in (alias s) = s
text_in _ = []

-- the numbers of a vector; none of any other tree
abbrev pub numbers_in : Tree → List ℕ
numbers_in (int_vector ns) = ns
numbers_in _ = []

-- each number is one of 32 bits
abbrev pub AreWords : List ℕ → Type 0
AreWords ns = (k : ℕ) → k < length ns → slice_index ns k < 2 ^ 32

-- the node is one of the tree: of a string or an alias with some text, of an array or a table with
-- all that is inside still to come, where a table's keys strictly ascend, of these bytes, of this
-- number, or of a vector with some numbers of 32 bits
abbrev pub IsNode : {M E : Type 0} → (M → Trees) → (E → TableEntries) → Node M E → Tree → Type 0
IsNode members entries String t = (s : List ℕ) × (t ≡ string s)
IsNode members entries Alias t = (s : List ℕ) × (t ≡ alias s)
IsNode members entries (Array m) t = t ≡ array (members m)
IsNode members entries (Table e) t = (t ≡ table (entries e)) × IsMap (entries e)
IsNode members entries (Binary bytes) t = t ≡ binary bytes.now
IsNode members entries (Integer n) t = t ≡ integer n
IsNode members entries IntVector t = (ns : List ℕ) × (t ≡ int_vector ns) × AreWords ns

-- behind the old bytes stands a front of a text, and nothing else
abbrev pub AddsFront : List ℕ → List ℕ → List ℕ → Type 0
AddsFront old new text =
    (front : List ℕ) × (rest : List ℕ) × (new ≡ old ++ front) × (front ++ rest ≡ text)
