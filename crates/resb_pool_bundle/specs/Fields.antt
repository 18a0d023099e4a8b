-- What the head of a file of any version says of pool bundles. (ICU's `uresdata.h`: format versions
-- 1.1 to 3.0.)
--     index_length bytes      how many words the index has
--     block_end_in bytes      where the 16-bit block ends, in words of the body
--     is_pool, uses_pool      whether the file is a pool bundle, and whether it uses one
--     checksum_in bytes       by which a file and its pool know each other
--     limit_in, short_limit_in    the first index of a string that is the file's own, as a word and
--                             as a unit tell it
use Rattle.std.specs.Prelude.{ℕ, ◌+◌, ◌*◌, ◌/◌, ◌%◌, ◌^◌, ◌==◌, ◌&&◌, ◌||◌, List, Bool, nat_le}
use Rattle.std.specs.Prelude.{Option, Some, None, slice_index, if◌then◌else◌}
use Rattle.resb_head.specs.File.{body_word, field_count, keys_end, block_end, attributes}

-- the version's first number
abbrev pub major : List ℕ → ℕ
major bytes = slice_index bytes 16

-- the version's second number
abbrev pub minor : List ℕ → ℕ
minor bytes = slice_index bytes 17

-- how many words the index has: the lowest 8 bits of its first word
abbrev pub index_length : List ℕ → ℕ
index_length bytes = field_count bytes % 2 ^ 8

-- the attributes: from version 1.2 on the sixth word of the index, and none where it has no such
-- word
abbrev pub attributes_in : List ℕ → ℕ
attributes_in bytes =
    if nat_le 6 (index_length bytes) && (nat_le 2 (major bytes) || nat_le 2 (minor bytes)) then
    attributes bytes
    else 0

-- the second lowest bit of the attributes: the file is a pool bundle
abbrev pub is_pool : List ℕ → Bool
is_pool bytes = attributes_in bytes / 2 % 2 == 1

-- the third lowest bit of the attributes: the file uses a pool bundle
abbrev pub uses_pool : List ℕ → Bool
uses_pool bytes = attributes_in bytes / 4 % 2 == 1

-- the checksum of the pool that the file is or uses: the eighth word of the index, if it has one
abbrev pub checksum_in : List ℕ → Option ℕ
checksum_in bytes =
    if nat_le 8 (index_length bytes) then Some (body_word bytes 8) else None

-- where the 16-bit block ends, in words of the body: versions before 2.0 have no such block
abbrev pub block_end_in : List ℕ → ℕ
block_end_in bytes = if nat_le 2 (major bytes) then block_end bytes else keys_end bytes

-- the first index of a string that is the file's own: in version 3.0 the upper 24 bits of the
-- index's first word, and above them the bits 12 to 15 of the attributes; before it 0
abbrev pub limit_in : List ℕ → ℕ
limit_in bytes =
    if nat_le 3 (major bytes) then
    field_count bytes / 2 ^ 8 + 2 ^ 24 * (attributes_in bytes / 2 ^ 12 % 2 ^ 4)
    else 0

-- the same as a unit tells it: in version 3.0 the upper 16 bits of the attributes; before it 0
abbrev pub short_limit_in : List ℕ → ℕ
short_limit_in bytes = if nat_le 3 (major bytes) then attributes_in bytes / 2 ^ 16 else 0
