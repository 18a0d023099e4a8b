-- Strings and keys in finished blocks. (ICU's `uresdata.h`: strings of format version 2, key
-- block.)
--     string_at block u       the units of the string at unit u of the 16-bit block
--     text_at block u         the text of that string, if it is well-formed UTF-16
--     key_at keys k           the text of the key at byte k of the key block
use Rattle.std.specs.Prelude.{ℕ, ◌+◌, ◌-◌, ◌*◌, List, take, drop, Bool, ◌||◌, Option, Some, None}
use Rattle.std.specs.Prelude.{option_map, option_and_then, nat_le, nat_lt, ◌==◌, slice_index}
use Rattle.std.specs.Prelude.{position, if◌then◌else◌, encode_utf8_all}
use Rattle.std.specs.Char.Utf16.{has_unpaired_surrogate, utf16_lossy_chars}
use Rattle.std.specs.Str.{is_utf8}
use Rattle.resb_format.specs.Bytes.{part}

-- the members before the first 0, if there is one
abbrev pub before_zero : List ℕ → Option (List ℕ)
before_zero xs = option_map (λ n. take n xs) (position (λ x. x == 0) xs)

-- the unit begins no marker
abbrev pub is_no_marker : ℕ → Bool
is_no_marker unit = nat_lt unit 0xdc00 || nat_lt 0xdfff unit

-- the string at unit u, whose first unit is given: up to a 0 within 41 units, or after a marker of
-- one to three units as many as it says
abbrev pub string_from : List ℕ → ℕ → ℕ → Option (List ℕ)
string_from block u first =
    if is_no_marker first then before_zero (take 41 (drop u block))
    else if nat_le first 0xdfee then part block (u + 1) (first - 0xdc00)
    else if nat_le first 0xdffe then
    part block (u + 2) ((first - 0xdfef) * 0x1_0000 + slice_index block (u + 1))
    else part block (u + 3) (slice_index block (u + 1) * 0x1_0000 + slice_index block (u + 2))

-- the units of the string that begins at a unit of the 16-bit block, by its first unit: after a
-- marker as many as it says, all inside the block; else those before the first 0 among the next 41
-- units inside the block
unfoldable pub string_at : List ℕ → ℕ → Option (List ℕ)
string_at block u = string_from block u (slice_index block u)

-- the UTF-8 bytes of what the units spell
abbrev pub text_of_units : List ℕ → Option (List ℕ)
text_of_units us =
    if has_unpaired_surrogate us then None else Some (encode_utf8_all (utf16_lossy_chars us))

-- the text of the string that begins at a unit, if its units are well-formed UTF-16
unfoldable pub text_at : List ℕ → ℕ → Option (List ℕ)
text_at block u = option_and_then text_of_units (string_at block u)

-- the bytes, if they are UTF-8
abbrev pub if_utf8 : List ℕ → Option (List ℕ)
if_utf8 bytes = if is_utf8 bytes then Some bytes else None

-- the key at a byte of the key block: the bytes before the first zero byte from k on, if they are
-- UTF-8
unfoldable pub key_at : List ℕ → ℕ → Option (List ℕ)
key_at keys k = option_and_then if_utf8 (before_zero (drop k keys))
