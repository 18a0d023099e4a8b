-- Where things stand in a package. (ICU's `ucmndata.h`: `DataHeader`, `UDataOffsetTOC`.)
--     table_of bytes          the bytes behind the header, from which all offsets count
--     count_in table          how many items there are
--     name_from, name_to      from where up to where the name with a number stands
--     item_from, item_to      from where up to where the item with a number stands
--     name_at, item_at        the name and the item with a number
--     items_in table          all of them, in their order
use Rattle.std.specs.Prelude.{ℕ, ◌+◌, ◌*◌, List, length, drop, map, Option, nat_lt, slice_index}
use Rattle.std.specs.Prelude.{slice_range, unwrap_or, [], if◌then◌else◌}
use Rattle.std.specs.List.{range_with_len}
use Rattle.resb_format.specs.Bytes.{words_of, header_size}
use Rattle.resb_format.specs.Strings.{before_zero}

-- the bytes behind the header: the table of items, their names and the items
abbrev pub table_of : List ℕ → List ℕ
table_of bytes = drop (header_size bytes) bytes

-- how many items there are: the first word
abbrev pub count_in : List ℕ → ℕ
count_in table = slice_index (words_of table) 0

-- where the name with this number begins: the first word of its pair
abbrev pub name_from : List ℕ → ℕ → ℕ
name_from table i = slice_index (words_of table) (2 * i + 1)

-- where the item with this number begins: the second word of its pair
abbrev pub item_from : List ℕ → ℕ → ℕ
item_from table i = slice_index (words_of table) (2 * i + 2)

-- up to where its name may reach: where the next name begins, and for the last one the end
abbrev pub name_to : List ℕ → ℕ → ℕ
name_to table i =
    if nat_lt (i + 1) (count_in table) then name_from table (i + 1) else length table

-- where the item ends: where the next one begins, and for the last one the end
abbrev pub item_to : List ℕ → ℕ → ℕ
item_to table i =
    if nat_lt (i + 1) (count_in table) then item_from table (i + 1) else length table

-- the name with this number: the bytes from where it begins before the first zero byte, if one
-- stands before the next name
unfoldable pub name_at : List ℕ → ℕ → Option (List ℕ)
name_at table i = before_zero (slice_range table (name_from table i) (name_to table i))

-- the same, and no bytes where it has no end
abbrev pub name_in : List ℕ → ℕ → List ℕ
name_in table i = unwrap_or (name_at table i) []

-- the item with this number: the bytes from where it begins up to where it ends
unfoldable pub item_at : List ℕ → ℕ → List ℕ
item_at table i = slice_range table (item_from table i) (item_to table i)

-- each name with its item, in their order
unfoldable pub items_in : List ℕ → List (List ℕ × List ℕ)
items_in table =
    map (λ i. (name_in table i, item_at table i)) (range_with_len 0 (count_in table))
