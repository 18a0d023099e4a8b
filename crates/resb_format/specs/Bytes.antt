-- Bytes as little-endian numbers, and parts of lists that lie inside.
--     units_of bytes          the 16-bit units that the bytes spell
--     words_of bytes          the 32-bit words that they spell
--     unit_in big bytes n     the nth unit, its higher byte first where `big` says so
--     header_size bytes       how many bytes the header of an ICU file has
--     part xs i n             n members of xs from place i on, if they lie inside
use Rattle.std.specs.Prelude.{ℕ, ◌+◌, ◌*◌, List, [], ◌∷◌, length, take, drop, Option, Some, None}
use Rattle.std.specs.Prelude.{Bool, nat_le, slice_index, if◌then◌else◌}
use Rattle.std.specs.List.{flat_map}
use Rattle.std.specs.Int.{to_le_bytes, w16}

-- bytes as little-endian numbers of 16 bits; an odd byte at the end spells nothing
unfoldable pub units_of : List ℕ → List ℕ
units_of (a ∷ b ∷ bytes) = (a + 256 * b) ∷ units_of bytes
units_of (a ∷ []) = []
units_of [] = []

-- bytes as little-endian numbers of 32 bits; up to three bytes at the end spell nothing
unfoldable pub words_of : List ℕ → List ℕ
words_of (a ∷ b ∷ c ∷ d ∷ bytes) = (a + 256 * b + 65536 * c + 16777216 * d) ∷ words_of bytes
words_of (a ∷ b ∷ c ∷ []) = []
words_of (a ∷ b ∷ []) = []
words_of (a ∷ []) = []
words_of [] = []

-- how many bytes the header has: the first number of 16 bits of the file
abbrev pub header_size : List ℕ → ℕ
header_size bytes = slice_index (units_of bytes) 0

-- n items of a list from place i on, where all of them are inside it
abbrev pub part : List ℕ → ℕ → ℕ → Option (List ℕ)
part xs i n = if nat_le (i + n) (length xs) then Some (take n (drop i xs)) else None

-- unit i, its higher byte first where the file is in big-endian order
abbrev pub unit_in : Bool → List ℕ → ℕ → ℕ
unit_in big bytes i =
    if big then slice_index bytes (2 * i + 1) + 256 * slice_index bytes (2 * i)
    else slice_index (units_of bytes) i

-- the bytes under units of 16 bits, the lower byte of each first
abbrev pub units_as_bytes : List ℕ → List ℕ
units_as_bytes us = flat_map (to_le_bytes w16) us
