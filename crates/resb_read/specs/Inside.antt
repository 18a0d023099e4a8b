-- What stands inside a table, an array or a vector, and that it is what stands in its tree.
--     StandsAs place tree     a place denotes a tree, or there is neither
--     EntriesStand            the values of a table are found by their keys
--     MembersStand            the members of an array by their numbers
--     NumbersStand            the numbers of a vector by theirs
--     TypesTellTrees          the type that stands at a place is that of the tree
use Rattle.std.specs.Prelude.{◌≡◌, ◌==◌, ℕ, List, map, true, false, Option, Some, None, slice_get}
use Rattle.resb_tree.specs.LayingOrder.{array_members}
use Rattle.resb_tree.specs.Maps.{get}
use Rattle.resb_tree.specs.Tree.{Tree, array, table, int_vector, Trees, Entries}
use Rattle.resb_format.specs.Types as types
use Rattle.resb_format.specs.Descriptor.{type_number}
use Rattle.resb_format.specs.declared.repr_type.ResourceReprType.TheVariants as kind
use Rattle.resb_read.specs.Places.{Place}
use Rattle.resb_read.specs.Resources.{DenPlace}
use Rattle.resb_read.specs.Sequences.{entries_at, members_at, at_spot}
use Rattle.resb_read.specs.Spots.{type_at}
use Rattle.resb_read.specs.Tables.{last_named}
use Rattle.resb_read.specs.declared.cursor.Spot.TheVariants as spot

-- the place denotes the tree, with some count; or there is neither
abbrev pub StandsAs : Option Place → Option Tree → Type 0
StandsAs (Some p) (Some t) = (n : ℕ) × DenPlace p t n
StandsAs None None = Unit {0}
StandsAs _ _ = ⊥

-- where a place denotes a table, entries stand there, and the last of a name has the tree that the
-- table has at this key, or neither is there
abbrev pub EntriesStand : Type 0
EntriesStand = (p : Place) (es : Entries) (n : ℕ) → DenPlace p (table es) n
    → (places : List (Place × Place)) × (entries_at p ≡ Some places)
    × ((name : List ℕ) → StandsAs (last_named name places) (get name es))

-- where a place denotes an array, members stand there, and each number has the tree that the array
-- has at it, or neither is there
abbrev pub MembersStand : Type 0
MembersStand = (p : Place) (ts : Trees) (n : ℕ) → DenPlace p (array ts) n
    → (places : List Place) × (members_at p ≡ Some places)
    × ((k : ℕ) → StandsAs (slice_get places k) (slice_get (array_members ts) k))

-- where a place denotes a vector, its numbers stand there
abbrev pub NumbersStand : Type 0
NumbersStand = (p : Place) (ns : List ℕ) (n : ℕ) → DenPlace p (int_vector ns) n
    → members_at p ≡ Some (map (at_spot p.parts) (map spot.Word ns))

-- a type that is neither a table's nor an array's nor a vector's
abbrev pub HasNoMembers : ℕ → Type 0
HasNoMembers type =
    (types.is_table type ≡ false) × (types.is_array type ≡ false)
    × ((type == type_number kind.IntVector) ≡ false)

-- the type is that of a table where the tree is one, and so for arrays and vectors; else it is none
-- of theirs
abbrev pub IsTypeOf : Tree → ℕ → Type 0
IsTypeOf (table es) type = types.is_table type ≡ true
IsTypeOf (array ts) type = types.is_array type ≡ true
IsTypeOf (int_vector ns) type = (type == type_number kind.IntVector) ≡ true
IsTypeOf _ type = HasNoMembers type

-- where a place denotes a tree, the type that stands there is told, and is that of the tree
abbrev pub TypesTellTrees : Type 0
TypesTellTrees = (p : Place) (t : Tree) (n : ℕ) → DenPlace p t n
    → (type : ℕ) × (type_at p ≡ Some type) × IsTypeOf t type
