-- The numbers of a file's body, in the order of bytes that the file names. (ICU's `ucmndata.h` and
-- `uresdata.h`.)
--     Numbered                the bytes of a file, where its body begins, and its order
--     numbered bytes          those of a file
--     byte_in, unit_in, second_unit_in, word_in   a byte of the body, and the numbers of a word
use Rattle.std.specs.Prelude.{ℕ, ◌+◌, ◌-◌, ◌*◌, ◌/◌, List, length, Bool, ◌==◌, slice_index}
use Rattle.std.specs.Prelude.{if◌then◌else◌}

-- the bytes of a file, where its body begins, and whether the higher byte of a number is the first
pub record Numbered : Type 0 where
  pub bytes : List ℕ
  pub start : ℕ
  pub big : Bool

-- the order of bytes: the file's byte 8
abbrev pub is_big : List ℕ → Bool
is_big bytes = slice_index bytes 8 == 1

-- the size of the header: the file's first unit
abbrev pub header_size : List ℕ → ℕ
header_size bytes =
    if is_big bytes then slice_index bytes 1 + 256 * slice_index bytes 0
    else slice_index bytes 0 + 256 * slice_index bytes 1

-- a file: its body begins behind the header
abbrev pub numbered : List ℕ → Numbered
numbered bytes = record { bytes = bytes; start = header_size bytes; big = is_big bytes }

-- how many whole words the body has
abbrev pub word_count : Numbered → ℕ
word_count f = (length f.bytes - f.start) / 4

-- a byte of the body
abbrev pub byte_in : Numbered → ℕ → ℕ
byte_in f i = slice_index f.bytes (f.start + i)

-- the first unit of a word
unfoldable pub unit_in : Numbered → ℕ → ℕ
unit_in f i =
    if f.big then byte_in f (4 * i + 1) + 256 * byte_in f (4 * i)
    else byte_in f (4 * i) + 256 * byte_in f (4 * i + 1)

-- the second unit of a word
unfoldable pub second_unit_in : Numbered → ℕ → ℕ
second_unit_in f i =
    if f.big then byte_in f (4 * i + 3) + 256 * byte_in f (4 * i + 2)
    else byte_in f (4 * i + 2) + 256 * byte_in f (4 * i + 3)

-- the number that a word is
unfoldable pub word_in : Numbered → ℕ → ℕ
word_in f i =
    if f.big then
    byte_in f (4 * i + 3) + 256 * byte_in f (4 * i + 2) + 65536 * byte_in f (4 * i + 1)
    + 16777216 * byte_in f (4 * i)
    else
    byte_in f (4 * i) + 256 * byte_in f (4 * i + 1) + 65536 * byte_in f (4 * i + 2)
    + 16777216 * byte_in f (4 * i + 3)
