-- Where keys and strings stand that a file tells by number: among its own, or in its pool.
--     wide_position k         a position of 32 bits, as an entry has it
--     key_place p n           the key block and the place in it that an entry's position tells
--     text_place p i          the 16-bit block and the unit of it that an index tells
--     index_in p u            the index that a unit of a short collection tells
--     key_in p k, string_in p i, text_in p i      what stands there
use Rattle.std.specs.Prelude.{ℕ, ◌+◌, ◌-◌, ◌^◌, List, length, Option, Some, None, nat_lt}
use Rattle.std.specs.Prelude.{if◌then◌else◌}
use Rattle.resb_format.specs.Parts.{Parts, Lent}
use Rattle.resb_format.specs.Strings.{key_at, string_at, text_at}

-- What a position tells hangs on its width, so one number says both: a position of 16 bits is
-- itself, and one of 32 bits is 2^16 more.
abbrev pub wide_position : ℕ → ℕ
wide_position k = 2 ^ 16 + k

-- the position that such a number is
abbrev pub position_in : ℕ → ℕ
position_in n = if nat_lt n (2 ^ 16) then n else n - 2 ^ 16

-- what a position tells that lies behind the own keys: one of 16 bits counts on in the pool's keys
-- from their first byte; one of 32 bits tells the pool's keys from 2^31 on, and below 2^31 nothing,
-- since no own key stands there
abbrev pub place_behind : Lent → List ℕ → ℕ → List ℕ × ℕ
place_behind l keys n =
    if nat_lt n (2 ^ 16) then (l.keys, n - length keys)
    else if nat_lt (n - 2 ^ 16) (2 ^ 31) then (keys, n - 2 ^ 16)
    else (l.keys, n - 2 ^ 16 - 2 ^ 31)

-- where nothing is said of a pool, a position tells a byte of the own keys; where a pool or none is
-- named, only a position below their end does
unfoldable pub key_place_by : Option Lent → List ℕ → ℕ → List ℕ × ℕ
key_place_by None keys n = (keys, position_in n)
key_place_by (Some l) keys n =
    if nat_lt (position_in n) (length keys) then (keys, position_in n)
    else place_behind l keys n

-- the key block and the byte of it that an entry's position tells
abbrev pub key_place : Parts → ℕ → List ℕ × ℕ
key_place p k = key_place_by p.lent p.keys k

-- the key at a position
abbrev pub key_in : Parts → ℕ → Option (List ℕ)
key_in p k = key_at (key_place p k).0 (key_place p k).1

-- where nothing is said of a pool, a unit tells itself; where a pool or none is named, units from
-- the short limit on tell strings from the limit on
unfoldable pub index_by : Option Lent → ℕ → ℕ
index_by None u = u
index_by (Some l) u = if nat_lt u l.short_limit then u else u - l.short_limit + l.limit

-- the index of the string that a unit tells
abbrev pub index_in : Parts → ℕ → ℕ
index_in p u = index_by p.lent u

-- where nothing is said of a pool, an index tells a unit of the own block; where a pool or none is
-- named, only an index from the limit on does, and any lower one tells a unit of the pool's
unfoldable pub text_place_by : Option Lent → List ℕ → ℕ → List ℕ × ℕ
text_place_by None block i = (block, i)
text_place_by (Some l) block i = if nat_lt i l.limit then (l.block, i) else (block, i - l.limit)

-- the 16-bit block and the unit of it that an index tells
abbrev pub text_place : Parts → ℕ → List ℕ × ℕ
text_place p i = text_place_by p.lent p.block i

-- the units of the string with an index
abbrev pub string_in : Parts → ℕ → Option (List ℕ)
string_in p i = string_at (text_place p i).0 (text_place p i).1

-- the text of the string with an index
abbrev pub text_in : Parts → ℕ → Option (List ℕ)
text_in p i = text_at (text_place p i).0 (text_place p i).1
