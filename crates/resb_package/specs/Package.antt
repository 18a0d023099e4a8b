-- What a package is. (ICU's `udata.h` and `ucmndata.h`.)
--     IsPackage bytes items   the bytes are a package of these names and items
--     IsItem table i e        the pair is the name and the item with this number
use Rattle.std.specs.Prelude.{◌≡◌, ℕ, ◌+◌, ◌*◌, ◌≤◌, List, [], ◌∷◌, length, Some, slice_get}
use Rattle.std.specs.Prelude.{slice_index, slice_range, codes}
use Rattle.std.specs.Str.{IsAscii}
use Rattle.std.specs.Ordering.{nat_cmp}
use Rattle.std.specs.Cmp.Lexicographic.{slice_cmp}
use Rattle.std.specs.declared.cmp.Ordering.TheVariants.{Less}
use Rattle.resb_package.specs.Table.{table_of, count_in, item_from, item_to}
use Rattle.resb_format.specs.Bytes.{header_size}
use Rattle.resb_package.specs.Table.{name_at, item_at}

-- the pair is the name and the bytes of the item with this number: the name has an end and is
-- ASCII, the item begins inside the file and ends no earlier
pub record IsItem (table : List ℕ) (i : ℕ) (item : List ℕ × List ℕ) : Type 0 where
  pub named : name_at table i ≡ Some item.0
  pub ascii : IsAscii item.0
  pub inside : item_from table i ≤ length table
  pub order : item_from table i ≤ item_to table i
  pub whole : item.1 ≡ item_at table i

-- the file's head says each of these things, the table lies inside the file and has just these
-- items, and each name is above the one before it, by their bytes
pub record IsPackage (bytes : List ℕ) (items : List (List ℕ × List ℕ)) : Type 0 where
  pub long : 24 ≤ length bytes
  pub magic : slice_range bytes 2 4 ≡ 0xda ∷ 0x27 ∷ []
  pub little_endian : slice_index bytes 8 ≡ 0
  pub ascii_family : slice_index bytes 9 ≡ 0
  pub format : slice_range bytes 12 16 ≡ codes "CmnD"
  pub version : slice_index bytes 16 ≡ 1
  pub header : 24 ≤ header_size bytes
  pub table_inside : 4 + 8 * count_in (table_of bytes) ≤ length (table_of bytes)
  pub all : length items ≡ count_in (table_of bytes)
  pub each : (i : ℕ) (item : List ℕ × List ℕ) → slice_get items i ≡ Some item
      → IsItem (table_of bytes) i item
  pub ascending : (i : ℕ) (item next : List ℕ × List ℕ) → slice_get items i ≡ Some item
      → slice_get items (i + 1) ≡ Some next → slice_cmp nat_cmp item.0 next.0 ≡ Less
