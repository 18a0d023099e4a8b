-- The checksum of a pool bundle: a CRC of 32 bits. (ICU's `uresdata.h`:
-- `URES_INDEX_POOL_CHECKSUM`.)
--     bit_step crc            a bit more
--     byte_step crc byte      a byte more
--     unit_step crc unit      a unit more
--     checksum_of pool        that of a pool's keys and units
use Rattle.std.specs.Prelude.{ℕ, ◌/◌, ◌%◌, ◌==◌, if◌then◌else◌}
use Rattle.std.specs.Fn.{iterate}
use Rattle.std.specs.Int.Bits.{bit_xor}
use Rattle.std.specs.List.{fold}
use Rattle.resb_pool_bundle.specs.Pool.{Pool}

-- the lowest bit is taken off, and where it was 1, the polynomial 0xedb88320 is added to the
-- others, bit by bit
unfoldable pub bit_step : ℕ → ℕ
bit_step crc = if crc % 2 == 1 then bit_xor (crc / 2) 0xedb88320 else crc / 2

-- a byte is added to the lowest 8 bits, which are taken off
abbrev pub byte_step : ℕ → ℕ → ℕ
byte_step crc byte = iterate bit_step 8 (bit_xor crc byte)

-- the two bytes of a unit, the upper one first
abbrev pub unit_step : ℕ → ℕ → ℕ
unit_step crc unit = byte_step (byte_step crc (unit / 256)) (unit % 256)

-- all key bytes and then all units, from 0 on
unfoldable pub checksum_of : Pool → ℕ
checksum_of pool = fold unit_step (fold byte_step 0 pool.keys) pool.block
