-- A package in the other order of bytes. (ICU's `ucmndata.h`: `UDataOffsetTOC`.)
--     item_count f                how many items a package has
--     item_place f i, name_place f i      where the item and the name with a number begin
--     IsPackageHead bytes         the head is a package's, and the table of items lies inside
--     IsTurned from to n          n bytes of the second are those of a package with its header and
--                                 table in the other order
--     IsLaidOut f                 items stand in their order, and the names before them
--     IsSwappedPackage from to    the second is the first in the other order, each item too
use Rattle.std.specs.Prelude.{◌≡◌, ℕ, ◌+◌, ◌-◌, ◌*◌, ◌<◌, ◌≤◌, List, length, Bool, true, ◌==◌, ◌&&◌}
use Rattle.std.specs.Prelude.{nat_le, nat_lt, slice_index, slice_range, if◌then◌else◌}
use Rattle.resb_swap.specs.Numbers.{Numbered, numbered, header_size, byte_in, word_in, word_count}
use Rattle.resb_swap.specs.Roles.{role_at}
use Rattle.resb_swap.specs.Swapped.{mirrored_byte, IsSwapped}
use Rattle.resb_swap.specs.declared.role.Role.{Role}
use Rattle.resb_swap.specs.declared.role.Role.TheVariants as role

-- how many items a package has: the first word behind the header
abbrev pub item_count : Numbered → ℕ
item_count f = word_in f 0

-- where the table ends, in bytes behind the header: its words are that number and two for each item
abbrev pub table_end : Numbered → ℕ
table_end f = 4 * (2 * item_count f + 1)

-- where the name of this item begins: the first word of its pair
abbrev pub name_place : Numbered → ℕ → ℕ
name_place f i = word_in f (2 * i + 1)

-- where this item begins: the second word of its pair; behind the last item the end of the file
unfoldable pub item_place : Numbered → ℕ → ℕ
item_place f i =
    if nat_lt i (item_count f) then word_in f (2 * i + 2) else length f.bytes - f.start

-- the bytes between the beginnings of this item and of the next one, in a file as long as the
-- package
abbrev pub item_of : Numbered → List ℕ → ℕ → List ℕ
item_of f bytes i = slice_range bytes (f.start + item_place f i) (f.start + item_place f (i + 1))

-- ICU's magic word, an order of bytes that ICU knows, the data format `CmnD`, and its version 1
unfoldable pub is_package : List ℕ → Bool
is_package bytes =
    ((slice_index bytes 2 == 0xda && slice_index bytes 3 == 0x27)
    && (nat_le (slice_index bytes 8) 1 && slice_index bytes 16 == 1))
    && ((slice_index bytes 12 == 67 && slice_index bytes 13 == 109)
    && (slice_index bytes 14 == 110 && slice_index bytes 15 == 68))

-- the head is that of a package for machines of the ASCII family, in either order, and the table of
-- items lies inside
pub record IsPackageHead (bytes : List ℕ) : Type 0 where
  pub long : 24 ≤ length bytes
  pub kind : is_package bytes ≡ true
  pub ascii : slice_index bytes 9 ≡ 0
  pub size : 24 ≤ header_size bytes
  pub table : 2 * item_count (numbered bytes) < word_count (numbered bytes)

-- the words of the table are numbers; the other bytes are no part of it
abbrev pub table_role : Numbered → ℕ → Role
table_role f i = if nat_le i (2 * item_count f) then role.Words else role.Free

-- this list has a role for each word of a package
pub record TableRoles (f : Numbered) (rs : List Role) : Type 0 where
  pub each : length rs ≡ word_count f
  pub roles : (i : ℕ) → i < word_count f → role_at rs i ≡ table_role f i

-- the first file is a package, and each of so many bytes of the second is that of its mirror place,
-- where the header and the words of the table are mirrored and all else stays
pub record IsTurned (from to : List ℕ) (n : ℕ) : Type 0 where
  pub head : IsPackageHead from
  pub roles : List Role
  pub roles_are : TableRoles (numbered from) roles
  pub as_long : length to ≡ length from
  pub mirrored : (p : ℕ) → p < n → slice_index to p ≡ mirrored_byte roles from p

-- this item stands behind the table, and before the next one or the end of the file
pub record IsItemInPlace (f : Numbered) (i : ℕ) : Type 0 where
  pub behind : table_end f ≤ item_place f i
  pub order : item_place f i ≤ item_place f (i + 1)

-- the name of this item stands between the table and the first item: a zero byte ends it there
pub record IsNameInPlace (f : Numbered) (i : ℕ) : Type 0 where
  pub behind : table_end f ≤ name_place f i
  pub zero : ℕ
  pub ends : name_place f i ≤ zero
  pub before : zero < item_place f 0
  pub is_zero : byte_in f zero ≡ 0

-- all items and names are where they belong, so that no byte is a part of two of them
pub record IsLaidOut (f : Numbered) : Type 0 where
  pub items : (i : ℕ) → i < item_count f → IsItemInPlace f i
  pub names : (i : ℕ) → i < item_count f → IsNameInPlace f i

-- an item is of the package's order, and here it is in the other one
pub record IsSwappedItem (order : ℕ) (from to : List ℕ) : Type 0 where
  pub same_order : slice_index from 8 ≡ order
  pub swapped : IsSwapped from to

-- the second package is the first in the other order: what stands before the items is turned, and
-- each item is a file in the other order
pub record IsSwappedPackage (from to : List ℕ) : Type 0 where
  pub laid : IsLaidOut (numbered from)
  pub front : IsTurned from to (header_size from + item_place (numbered from) 0)
  pub items : (i : ℕ) → i < item_count (numbered from)
      → IsSwappedItem (slice_index from 8) (item_of (numbered from) from i)
      (item_of (numbered from) to i)
