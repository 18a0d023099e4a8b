-- The data of a collation inside a binary: its parts, and the roles of their words. (ICU's
-- `collationdatareader.h` and `utrie2.h`.)
--     is_collation f p        a binary begins as such data does
--     is_whole f p            its parts stand one behind the other inside the binary
--     parts_in f q            where they end
--     part_role s k           the role of a word by these
use Rattle.std.specs.Prelude.{ℕ, ◌+◌, ◌-◌, ◌*◌, ◌/◌, ◌%◌, Bool, true, ◌==◌, ◌&&◌, nat_le, nat_lt}
use Rattle.std.specs.Prelude.{min}
use Rattle.std.specs.Prelude.{if◌then◌else◌}
use Rattle.resb_swap.specs.Numbers.{Numbered, byte_in, unit_in, second_unit_in, word_in, word_count}
use Rattle.resb_swap.specs.declared.parts.Parts.{Parts}
use Rattle.resb_swap.specs.declared.role.Role.{Role}
use Rattle.resb_swap.specs.declared.role.Role.TheVariants as role

-- a binary of at least 16 bytes that begins as the data of a collation does: a magic word, and the
-- format's name at its byte 12
unfoldable pub is_collation : Numbered → ℕ → Bool
is_collation f p =
    (nat_le 16 (word_in f p)
    && (byte_in f (4 * p + 6) == 0xda && byte_in f (4 * p + 7) == 0x27))
    && ((byte_in f (4 * p + 16) == 85 && byte_in f (4 * p + 17) == 67)
    && (byte_in f (4 * p + 18) == 111 && byte_in f (4 * p + 19) == 108))

-- below, q is the first word of the data: the one behind the binary's number

-- the size of the data's header in bytes: its first unit
abbrev pub data_header : Numbered → ℕ → ℕ
data_header f q = unit_in f q

-- where the indexes begin: behind the header
abbrev pub index_from : Numbered → ℕ → ℕ
index_from f q = q + data_header f q / 4

-- how many indexes there are: the first of them
abbrev pub index_count : Numbered → ℕ → ℕ
index_count f q = word_in f (index_from f q)

-- where part j begins, in bytes behind the header: index j, or the last one where there are fewer;
-- fewer than six name no parts, and all lie at the end of the indexes
unfoldable pub offset_in : Numbered → ℕ → ℕ → ℕ
offset_in f q j =
    if nat_le (index_count f q) 5 then 4 * index_count f q
    else word_in f (index_from f q + min j (index_count f q - 1))

-- part j has whole numbers of so many bytes
abbrev pub is_part : Numbered → ℕ → ℕ → ℕ → Bool
is_part f q j size =
    nat_le (offset_in f q j) (offset_in f q (j + 1))
    && (offset_in f q (j + 1) - offset_in f q j) % size == 0

-- part j has no bytes
abbrev pub is_no_part : Numbered → ℕ → ℕ → Bool
is_no_part f q j = offset_in f q j == offset_in f q (j + 1)

-- the binary has a header and two numbers, and lies inside the file; and its header says the file's
-- order of bytes, characters of the ASCII family, and version 4 or 5 of the format
unfoldable pub is_headed : Numbered → ℕ → Bool
is_headed f p =
    (nat_le 32 (word_in f p) && nat_le (p + 1 + (word_in f p + 3) / 4) (word_count f))
    && ((byte_in f (4 * p + 12) == (if f.big then 1 else 0) && byte_in f (4 * p + 13) == 0)
    && (nat_le 4 (byte_in f (4 * p + 20)) && nat_le (byte_in f (4 * p + 20)) 5))

-- the header has whole words, and at least two indexes stand behind it
unfoldable pub has_indexes : Numbered → ℕ → Bool
has_indexes f p =
    ((nat_le 24 (data_header f (p + 1)) && data_header f (p + 1) % 4 == 0)
    && nat_le (data_header f (p + 1) + 8) (word_in f p))
    && (nat_le 2 (index_count f (p + 1))
    && nat_le (data_header f (p + 1) + 4 * index_count f (p + 1)) (word_in f p))

-- the first parts stand behind the indexes, one behind the other: script codes (32 bits), their
-- table (bytes), a trie, nothing
abbrev pub has_front_parts : Numbered → ℕ → Bool
has_front_parts f p =
    (nat_le (4 * index_count f (p + 1)) (offset_in f (p + 1) 5) && offset_in f (p + 1) 5 % 4 == 0)
    && ((is_part f (p + 1) 5 4 && is_part f (p + 1) 6 4)
    && (is_part f (p + 1) 7 4 && is_no_part f (p + 1) 8))

-- then weights (64 bits), nothing, two parts of 32 bits, four of 16
abbrev pub has_late_parts : Numbered → ℕ → Bool
has_late_parts f p =
    ((is_part f (p + 1) 9 8 && is_no_part f (p + 1) 10)
    && (is_part f (p + 1) 11 4 && is_part f (p + 1) 12 4))
    && ((is_part f (p + 1) 13 2 && is_part f (p + 1) 14 2)
    && (is_part f (p + 1) 15 2 && is_part f (p + 1) 16 2))

-- then bytes and nothing, which end inside the binary
abbrev pub has_end : Numbered → ℕ → Bool
has_end f p =
    (nat_le (offset_in f (p + 1) 17) (offset_in f (p + 1) 18) && is_no_part f (p + 1) 18)
    && nat_le (data_header f (p + 1) + offset_in f (p + 1) 19) (word_in f p)

-- all parts stand one behind the other inside the binary
unfoldable pub has_parts : Numbered → ℕ → Bool
has_parts f p = has_front_parts f p && (has_late_parts f p && has_end f p)

-- the word where part j begins, from the data's first one
abbrev pub part_at : Numbered → ℕ → ℕ → ℕ
part_at f q j = data_header f q / 4 + offset_in f q j / 4

-- how many units the trie's index has: the second unit of the word behind its first
abbrev pub trie_units : Numbered → ℕ → ℕ
trie_units f t = second_unit_in f (t + 1)

-- its values have 32 bits, and not 16: the lowest bit of that word's first unit
abbrev pub has_wide_values : Numbered → ℕ → Bool
has_wide_values f t = unit_in f (t + 1) % 16 == 1

-- how many words the values take, which the next word counts in fours
abbrev pub value_words : Numbered → ℕ → ℕ
value_words f t = if has_wide_values f t then 4 * unit_in f (t + 2) else 2 * unit_in f (t + 2)

-- a trie stands at this word, and ends within so many words: four of header, an index of whole
-- words, and the values
unfoldable pub is_trie : Numbered → ℕ → ℕ → Bool
is_trie f t n =
    (nat_le 4 n && word_in f t == 0x54726932)
    && ((nat_le (unit_in f (t + 1) % 16) 1 && trie_units f t % 2 == 0)
    && nat_le (4 + trie_units f t / 2 + value_words f t) n)

-- part 7 is empty, or a trie stands there
abbrev pub is_trie_part : Numbered → ℕ → Bool
is_trie_part f q =
    if nat_lt (part_at f q 7) (part_at f q 8) then
    is_trie f (q + part_at f q 7) (part_at f q 8 - part_at f q 7)
    else true

-- header, indexes, parts and trie are as they have to be
abbrev pub is_whole : Numbered → ℕ → Bool
is_whole f p = (is_headed f p && has_indexes f p) && (has_parts f p && is_trie_part f (p + 1))

-- where the parts end, in words from the data's first one, as if there were no trie
abbrev pub outer_parts : Numbered → ℕ → Parts
outer_parts f q = record {
  header = data_header f q / 4;
  indexes = data_header f q / 4 + index_count f q;
  gap = part_at f q 5;
  codes = part_at f q 6;
  table = part_at f q 7;
  signature = part_at f q 7;
  units = part_at f q 7;
  values = part_at f q 7;
  fill = part_at f q 9;
  weights = part_at f q 10;
  words = part_at f q 13;
  texts = part_at f q 17;
  last = data_header f q / 4 + (offset_in f q 17 + 2) / 4;
}

-- where a trie's index ends that stands at word t of the file and word n of the data
abbrev pub trie_head : Numbered → ℕ → ℕ → ℕ
trie_head f t n = n + 4 + trie_units f t / 2

-- the parts with a trie at word t of the file: its header, its index, and values of 16 bits are
-- units, and values of 32 bits are words
abbrev pub parts_with : Numbered → ℕ → Parts → Parts
parts_with f t s = record {
  header = s.header;
  indexes = s.indexes;
  gap = s.gap;
  codes = s.codes;
  table = s.table;
  signature = s.table + 1;
  units =
      if has_wide_values f t then trie_head f t s.table
      else trie_head f t s.table + value_words f t;
  values = trie_head f t s.table + value_words f t;
  fill = s.fill;
  weights = s.weights;
  words = s.words;
  texts = s.texts;
  last = s.last;
}

-- where the parts end, in words from the data's first one
unfoldable pub parts_in : Numbered → ℕ → Parts
parts_in f q =
    if nat_lt (part_at f q 7) (part_at f q 8) then
    parts_with f (q + part_at f q 7) (outer_parts f q)
    else outer_parts f q

-- the role of a word of the weights: the halves of its number take turns
abbrev pub half_role : Parts → ℕ → Role
half_role s k = if (k - s.fill) % 2 == 0 then role.First else role.Second

-- the role of word k in the trie or behind it, by the parts
abbrev pub late_role : Parts → ℕ → Role
late_role s k =
    if nat_lt k s.signature then role.Words
    else if nat_lt k s.units then role.Units
    else if nat_lt k s.values then role.Words
    else if nat_lt k s.fill then role.Bytes
    else if nat_lt k s.weights then half_role s k
    else if nat_lt k s.words then role.Words
    else if nat_lt k s.texts then role.Units
    else if nat_lt k s.last then role.OneUnit
    else role.Bytes

-- the role of word k behind the order of bytes, by the parts
abbrev pub early_role : Parts → ℕ → Role
early_role s k =
    if nat_lt k s.header then role.Bytes
    else if nat_lt k s.indexes then role.Words
    else if nat_lt k s.gap then role.Bytes
    else if nat_lt k s.codes then role.Words
    else if nat_lt k s.table then role.Bytes
    else late_role s k

-- the role of word k of the data: in the header the size, two units, and the order of bytes; then
-- by the parts
abbrev pub part_role : Parts → ℕ → Role
part_role s k =
    if nat_lt k 1 then role.OneUnit
    else if nat_lt k 2 then role.Units
    else if nat_lt k 3 then role.Order
    else early_role s k

-- a binary that holds the data of a collation
abbrev pub holds_data : Numbered → ℕ → Bool
holds_data f p = is_whole f p && is_collation f p
