-- What a text takes in the 16-bit block. A text is its UTF-8 bytes. (Markers: ICU's `uresdata.h`,
-- strings of format version 2.)
--     units t                 its UTF-16 form
--     is_unmarked t           whether it stands without a marker
--     marker t, size t        its marker, and how many units a record of it takes
use Rattle.std.specs.Prelude.{ℕ, ◌+◌, ◌/◌, ◌%◌, List, [], ◌∷◌, length, Bool, nat_le, nat_eq, not}
use Rattle.std.specs.Prelude.{◌&&◌, if◌then◌else◌}
use Rattle.std.specs.List.{flat_map, list_any}
use Rattle.std.specs.Char.Escape.{encode_utf16}
use Rattle.std.specs.Str.{chars}

-- a text in UTF-16: the units of its characters, one after another
abbrev pub units : List ℕ → List ℕ
units t = flat_map encode_utf16 (chars t)

-- at most 40 units, and no U+0000, which alone has a byte 0
abbrev pub is_unmarked : List ℕ → Bool
is_unmarked t = nat_le (length (units t)) 40 && not (list_any (λ b. nat_eq b 0) t)

-- a marker that says n units
abbrev pub length_marker : ℕ → List ℕ
length_marker n =
    if nat_le n 0x3ee then (0xdc00 + n) ∷ []
    else if nat_le n 0xf_ffff then (0xdfef + n / 0x1_0000) ∷ (n % 0x1_0000) ∷ []
    else 0xdfff ∷ (n / 0x1_0000) ∷ (n % 0x1_0000) ∷ []

-- how many units the marker of n units takes where their number alone asks for one
abbrev pub marker_len : ℕ → ℕ
marker_len n =
    if nat_le n 40 then 0 else if nat_le n 0x3ee then 1 else if nat_le n 0xf_ffff then 2 else 3

-- the units in front of a text's own that say how many these are; none where the text is unmarked
abbrev pub marker : List ℕ → List ℕ
marker t = if is_unmarked t then [] else length_marker (length (units t))

-- how many units a record of a text takes: marker, units and the 0 at the end
abbrev pub size : List ℕ → ℕ
size t = length (marker t) + length (units t) + 1
