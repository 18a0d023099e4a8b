-- What the caller is told of a resource, by the tree that it denotes.
--     text_shown, bytes_shown, numbers_shown s    the text, the bytes, the numbers of one
--     unsigned_shown, signed_shown s              the number of one, without and with its sign
--     HasSize o r s n         how much is in it
--     IsFound o s a       what is answered where this is looked for
--     MemberOf o r k a s      what is answered of the kth member
use Rattle.std.specs.Prelude.{◌≡◌, ℕ, ℤ, List, length, Option, Some, None, Result, Ok, Err}
use Rattle.std.specs.Prelude.{option_map, slice_get, IsUtf8}
use Rattle.std.specs.Int.{cast_signed, w32}
use Rattle.resb_format.specs.Error.{IsWantOfMemory}
use Rattle.resb_tree.specs.LayingOrder.{array_members}
use Rattle.resb_tree.specs.Maps.{get}
use Rattle.resb_tree.specs.Tree.{Tree, string, alias, array, table, binary, integer, int_vector}
use Rattle.resb_tree.specs.Int28.{signed}
use Rattle.resb_path.specs.Finding.{Spot, tree_spot, number_spot, found_at}
use Rattle.resb_c.specs.Paths.{names_in}
use Rattle.resb_c.specs.Calls.{Fills, IsNotUtf8}
use Rattle.resb_c.specs.Opened.{Shows, HoldsEntries}
use Rattle.resb_c.specs.declared.fault.Fault.{Fault}
use Rattle.resb_c.specs.declared.fault.Fault.TheVariants.{NotFound, NotUtf8, OtherKind}
use Rattle.resb_c.specs.declared.fault.Fault.TheVariants.{Reading, TooShort}
use Rattle.resb_c.specs.declared.opened.ResbOpened.{ResbOpened}
use Rattle.resb_c.specs.declared.resource.ResbResource.{ResbResource}

-- the text of a string
abbrev pub tree_text : Tree → Option (List ℕ)
tree_text (string s) = Some s
tree_text (alias s) = None
tree_text (array ts) = None
tree_text (table es) = None
tree_text (binary bytes) = None
tree_text (integer n) = None
tree_text (int_vector ns) = None

-- the bytes of a binary
abbrev pub tree_bytes : Tree → Option (List ℕ)
tree_bytes (binary bytes) = Some bytes
tree_bytes (string s) = None
tree_bytes (alias s) = None
tree_bytes (array ts) = None
tree_bytes (table es) = None
tree_bytes (integer n) = None
tree_bytes (int_vector ns) = None

-- the numbers of a vector
abbrev pub tree_numbers : Tree → Option (List ℕ)
tree_numbers (int_vector ns) = Some ns
tree_numbers (string s) = None
tree_numbers (alias s) = None
tree_numbers (array ts) = None
tree_numbers (table es) = None
tree_numbers (binary bytes) = None
tree_numbers (integer n) = None

-- the 28 bits of an integer
abbrev pub tree_integer : Tree → Option ℕ
tree_integer (integer n) = Some n
tree_integer (string s) = None
tree_integer (alias s) = None
tree_integer (array ts) = None
tree_integer (table es) = None
tree_integer (binary bytes) = None
tree_integer (int_vector ns) = None

-- the text of a string, and of nothing else
abbrev pub text_shown : Spot → Option (List ℕ)
text_shown (tree_spot t) = tree_text t
text_shown (number_spot n) = None

-- the bytes of a binary, and of nothing else
abbrev pub bytes_shown : Spot → Option (List ℕ)
bytes_shown (tree_spot t) = tree_bytes t
bytes_shown (number_spot n) = None

-- the numbers of a vector, and of nothing else
abbrev pub numbers_shown : Spot → Option (List ℕ)
numbers_shown (tree_spot t) = tree_numbers t
numbers_shown (number_spot n) = None

-- the number of an integer, from 0 to 2^28 - 1, or of a vector, from 0 to 2^32 - 1
abbrev pub unsigned_shown : Spot → Option ℕ
unsigned_shown (tree_spot t) = tree_integer t
unsigned_shown (number_spot n) = Some n

-- the same number with its sign, which is its highest bit
abbrev pub signed_shown : Spot → Option ℤ
signed_shown (tree_spot t) = option_map signed (tree_integer t)
signed_shown (number_spot n) = Some (cast_signed w32 n)

-- how much is in it: an array's members, the entries of a table, those that are replaced included,
-- a vector's numbers, a binary's bytes; and else nothing
abbrev pub HasSize : ResbOpened → ResbResource → Spot → ℕ → Type 0
HasSize o r (tree_spot (array ts)) n = n ≡ length (array_members ts)
HasSize o r (tree_spot (table es)) n =
    (ts : List (List ℕ × Tree)) → HoldsEntries o r ts → n ≡ length ts
HasSize o r (tree_spot (int_vector ns)) n = n ≡ length ns
HasSize o r (tree_spot (binary bytes)) n = n ≡ length bytes
HasSize o r (tree_spot (string s)) n = n ≡ 0
HasSize o r (tree_spot (alias s)) n = n ≡ 0
HasSize o r (tree_spot (integer m)) n = n ≡ 0
HasSize o r (number_spot m) n = n ≡ 0

-- what was looked for is there, and is named; or nothing is
abbrev pub IsFound : ResbOpened → Option Spot → Result ResbResource Fault → Type 0
IsFound o (Some s) (Ok r) = Shows o r s
IsFound o None (Err e) = e ≡ NotFound
IsFound o (Some s) (Err e) = ⊥
IsFound o None (Ok r) = ⊥

-- the member of an array, the value of an entry of a table, in the order of the file, and the
-- number of a vector that have this number; or that there are not so many; and that nothing else
-- has members
abbrev pub MemberOf : ResbOpened → ResbResource → ℕ → Result ResbResource Fault → Spot → Type 0
MemberOf o r k a (tree_spot (array ts)) =
    IsFound o (option_map tree_spot (slice_get (array_members ts) k)) a
MemberOf o r k a (tree_spot (table es)) =
    (ts : List (List ℕ × Tree)) → HoldsEntries o r ts
    → IsFound o (option_map (λ e. tree_spot e.1) (slice_get ts k)) a
MemberOf o r k a (tree_spot (int_vector ns)) =
    IsFound o (option_map number_spot (slice_get ns k)) a
MemberOf o r k a (tree_spot (string s)) = a ≡ Err OtherKind
MemberOf o r k a (tree_spot (alias s)) = a ≡ Err OtherKind
MemberOf o r k a (tree_spot (binary bytes)) = a ≡ Err OtherKind
MemberOf o r k a (tree_spot (integer n)) = a ≡ Err OtherKind
MemberOf o r k a (number_spot n) = a ≡ Err OtherKind

-- the value that a table has at this key, or that it has none; nothing else has keys
abbrev pub ValueOf : ResbOpened → List ℕ → Result ResbResource Fault → Spot → Type 0
ValueOf o key a (tree_spot (table es)) = IsFound o (option_map tree_spot (get key es)) a
ValueOf o key a (tree_spot (array ts)) = a ≡ Err OtherKind
ValueOf o key a (tree_spot (int_vector ns)) = a ≡ Err OtherKind
ValueOf o key a (tree_spot (string s)) = a ≡ Err OtherKind
ValueOf o key a (tree_spot (alias s)) = a ≡ Err OtherKind
ValueOf o key a (tree_spot (binary bytes)) = a ≡ Err OtherKind
ValueOf o key a (tree_spot (integer n)) = a ≡ Err OtherKind
ValueOf o key a (number_spot n) = a ≡ Err OtherKind

-- the same of a key that need be no text: where it is none, that is told
abbrev pub ValueAtKey : ResbOpened → List ℕ → Spot → Result ResbResource Fault → Type 0
ValueAtKey o key s (Err (NotUtf8 n)) = IsNotUtf8 key n
ValueAtKey o key s a = IsUtf8 key × ValueOf o key a s

-- what stands at the path from there on, or that nothing does; that the path is no text; or that
-- memory is wanted for its names
abbrev pub FindsPath : ResbOpened → List ℕ → Spot → Result ResbResource Fault → Type 0
FindsPath o path s (Err (NotUtf8 n)) = IsNotUtf8 path n
FindsPath o path s (Err (Reading e)) = IsUtf8 path × IsWantOfMemory e
FindsPath o path s a = IsUtf8 path × IsFound o (found_at s (names_in path)) a

-- a table stands there, and this is the key of its entry of this number, in the order of the file
abbrev pub GivesKeyOf : ResbOpened → ResbResource → ℕ → Spot → List ℕ → Type 0
GivesKeyOf o r k (tree_spot (table es)) key =
    (ts : List (List ℕ × Tree)) → HoldsEntries o r ts
    → option_map (λ e. e.0) (slice_get ts k) ≡ Some key
GivesKeyOf o r k (tree_spot (array ts)) key = ⊥
GivesKeyOf o r k (tree_spot (int_vector ns)) key = ⊥
GivesKeyOf o r k (tree_spot (string s)) key = ⊥
GivesKeyOf o r k (tree_spot (alias s)) key = ⊥
GivesKeyOf o r k (tree_spot (binary bytes)) key = ⊥
GivesKeyOf o r k (tree_spot (integer n)) key = ⊥
GivesKeyOf o r k (number_spot n) key = ⊥

-- the table that stands there has no entry of this number, or no table stands there
abbrev pub LacksKeyOf : ResbOpened → ResbResource → ℕ → Spot → Fault → Type 0
LacksKeyOf o r k (tree_spot (table es)) e =
    (ts : List (List ℕ × Tree)) → HoldsEntries o r ts → (slice_get ts k ≡ None) × (e ≡ NotFound)
LacksKeyOf o r k (tree_spot (array ts)) e = e ≡ OtherKind
LacksKeyOf o r k (tree_spot (int_vector ns)) e = e ≡ OtherKind
LacksKeyOf o r k (tree_spot (string s)) e = e ≡ OtherKind
LacksKeyOf o r k (tree_spot (alias s)) e = e ≡ OtherKind
LacksKeyOf o r k (tree_spot (binary bytes)) e = e ≡ OtherKind
LacksKeyOf o r k (tree_spot (integer n)) e = e ≡ OtherKind
LacksKeyOf o r k (number_spot n) e = e ≡ OtherKind

-- the text is in the buffer, or would be if it had room, or memory is wanted for it; or there is
-- none, and the buffer is as it was
abbrev pub FillsText : Option (List ℕ) → List ℕ → List ℕ → Result ℕ Fault → Type 0
FillsText (Some text) old new (Ok n) = Fills text old new (Ok n)
FillsText (Some text) old new (Err (TooShort n)) = Fills text old new (Err n)
FillsText (Some text) old new (Err (Reading e)) = IsWantOfMemory e × (new ≡ old)
FillsText (Some text) old new (Err e) = ⊥
FillsText None old new (Ok n) = ⊥
FillsText None old new (Err e) = (e ≡ OtherKind) × (new ≡ old)
