-- The bytes of a pool bundle. (ICU's `uresdata.h`: `URES_ATT_IS_POOL_BUNDLE`; header: `ucmndata.h`
-- and `udata.h`.)
--     pool_file q ks us       the file that has the keys ks, and the units us in its 16-bit block,
--                             packed like this
use Rattle.std.specs.Prelude.{ℕ, ◌+◌, ◌/◌, List, [], ◌∷◌, ◌++◌, length, nat_le, if◌then◌else◌}
use Rattle.std.specs.Prelude.{Bool, true}
use Rattle.resb_format.specs.Bytes.{units_as_bytes}
use Rattle.resb_layout.specs.KeyBlock.{key_bytes, padded}
use Rattle.resb_layout.specs.Laid.{words}
use Rattle.resb_layout.specs.Written.{even}
use Rattle.resb_layout.specs.WrittenHead.{header_of}
use Rattle.resb_pool.specs.declared.packing.Packing.{Packing}
use Rattle.resb_pool.specs.declared.packing.Packing.TheVariants.{Plain, Compact}
use Rattle.resb_pool_bundle.specs.Checksum.{checksum_of}

-- whether the file is of version 3.0: where some string stands behind unit 0, and a compact one in
-- any case, as `genrb` has it
abbrev pub is_third : Packing → List ℕ → Bool
is_third Plain us = nat_le 2 (length us)
is_third Compact us = true

-- the format version's first number
abbrev pub version_of : Packing → List ℕ → ℕ
version_of q us = if is_third q us then 3 else 2

-- the checksum of key bytes and units, which are filled to a word both
abbrev pub blocks_checksum : List ℕ → List ℕ → ℕ
blocks_checksum keys us = checksum_of (record { keys = keys; block = us; checksum = 0 })

-- the root's word, which is that of the empty table, and the index: its 8 fields, the end of the
-- keys, that of the resources and of the bundle, no table's entries, the attributes of a pool
-- bundle without fallback, the end of the 16-bit block, and the checksum. Ends are in words of the
-- body, of which 9 stand before the keys
abbrev pub head_words : List ℕ → List ℕ → List ℕ
head_words keys us =
    let keys_end = 9 + length keys / 4 in
    let end = keys_end + length us / 2 in
    0x2000_0000 ∷ 8 ∷ keys_end ∷ end ∷ end ∷ 0 ∷ 3 ∷ end ∷ blocks_checksum keys us ∷ []

-- header, head, key bytes and units, which are filled to a word both
abbrev pub file_of_blocks : ℕ → List ℕ → List ℕ → List ℕ
file_of_blocks version keys us =
    header_of version ++ (words (head_words keys us) ++ (keys ++ units_as_bytes us))

-- the file of keys, each with its zero byte, and of units
abbrev pub pool_file : Packing → List (List ℕ) → List ℕ → List ℕ
pool_file q ks us = file_of_blocks (version_of q us) (padded (key_bytes ks)) (even us)
