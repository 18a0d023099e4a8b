-- Where the values of a head stand, and the bytes that they are written as. (ICU's `udata.h`,
-- `ucmndata.h` and `uresdata.h`.)
--     InfoAt i bytes, HeaderAt h bytes, IndexAt i bytes       these values stand at the front of
--                                                             the bytes
--     info_bytes i, header_bytes h, index_bytes i             the bytes, in little-endian order
use Rattle.std.specs.Prelude.{◌≡◌, ℕ, ◌+◌, ◌*◌, ◌≤◌, min, List, [], ◌∷◌, ◌++◌, length, drop, nat_le}
use Rattle.std.specs.Prelude.{nat_eq, Option, Some, None, slice_index, slice_range, if◌then◌else◌}
use Rattle.std.specs.List.{flat_map}
use Rattle.std.specs.Option.{option_to_list}
use Rattle.std.specs.Int.{to_le_bytes, w16, w32}
use Rattle.resb_format.specs.Bytes.{words_of, unit_in}
use Rattle.resb_head.specs.Codes.{endianness_number, charset_number, version_bytes}
use Rattle.resb_head.specs.declared.head.BinHeader.{BinHeader}
use Rattle.resb_head.specs.declared.repr_info.BinReprInfo.{BinReprInfo}
use Rattle.resb_head.specs.declared.index.BinIndex.{BinIndex}

-- representation info stands at the front of these bytes, its numbers in the order of bytes that it
-- names itself
pub record InfoAt (info : BinReprInfo) (bytes : List ℕ) : Type 0 where
  pub size : info.size ≡ unit_in (nat_eq (slice_index bytes 4) 1) bytes 0
  pub reserved_word : info.reserved_word ≡ unit_in (nat_eq (slice_index bytes 4) 1) bytes 1
  pub endianness : endianness_number info.endianness ≡ slice_index bytes 4
  pub charset_family : charset_number info.charset_family ≡ slice_index bytes 5
  pub size_of_char : info.size_of_char ≡ slice_index bytes 6
  pub reserved_byte : info.reserved_byte ≡ slice_index bytes 7
  pub data_format : info.data_format ≡ slice_range bytes 8 12
  pub format_version : version_bytes info.format_version ≡ slice_range bytes 12 16
  pub data_version : info.data_version ≡ slice_range bytes 16 20

-- a header stands at the front of these bytes: its size, the magic word and the info
pub record HeaderAt (header : BinHeader) (bytes : List ℕ) : Type 0 where
  pub size : header.size ≡ unit_in (nat_eq (slice_index bytes 8) 1) bytes 0
  pub magic : slice_range bytes 2 4 ≡ 0xda ∷ 0x27 ∷ []
  pub info : InfoAt header.repr_info (drop 4 bytes)

-- word i, if so many fields are there
abbrev pub field : List ℕ → ℕ → ℕ → Option ℕ
field bytes count i = if nat_le (i + 1) count then Some (slice_index (words_of bytes) i) else None

-- each field of the index is the word at its place, and the last three are there where the count
-- says so
pub record IndexAt (index : BinIndex) (bytes : List ℕ) : Type 0 where
  pub field_count : index.field_count ≡ slice_index (words_of bytes) 0
  pub keys_end : index.keys_end ≡ slice_index (words_of bytes) 1
  pub resources_end : index.resources_end ≡ slice_index (words_of bytes) 2
  pub bundle_end : index.bundle_end ≡ slice_index (words_of bytes) 3
  pub largest_table_entry_count : index.largest_table_entry_count ≡ slice_index (words_of bytes) 4
  pub bundle_attributes : index.bundle_attributes ≡ field bytes index.field_count 5
  pub data_16_bit_end : index.data_16_bit_end ≡ field bytes index.field_count 6
  pub pool_checksum : index.pool_checksum ≡ field bytes index.field_count 7
  pub inside : 4 * min index.field_count 8 ≤ length bytes

-- the 20 bytes that representation info is written as
abbrev pub info_bytes : BinReprInfo → List ℕ
info_bytes i =
    to_le_bytes w16 i.size ++ to_le_bytes w16 i.reserved_word
    ++ endianness_number i.endianness ∷ charset_number i.charset_family ∷ i.size_of_char
    ∷ i.reserved_byte ∷ []
    ++ i.data_format ++ version_bytes i.format_version ++ i.data_version

-- the 24 bytes that a header is written as
abbrev pub header_bytes : BinHeader → List ℕ
header_bytes h = to_le_bytes w16 h.size ++ 0xda ∷ 0x27 ∷ [] ++ info_bytes h.repr_info

-- the words of an index: five, and those of the last three that it has
abbrev pub index_words : BinIndex → List ℕ
index_words i =
    i.field_count ∷ i.keys_end ∷ i.resources_end ∷ i.bundle_end ∷ i.largest_table_entry_count ∷ []
    ++ option_to_list i.bundle_attributes ++ option_to_list i.data_16_bit_end
    ++ option_to_list i.pool_checksum

-- the bytes that an index is written as: its words
abbrev pub index_bytes : BinIndex → List ℕ
index_bytes i = flat_map (to_le_bytes w32) (index_words i)
