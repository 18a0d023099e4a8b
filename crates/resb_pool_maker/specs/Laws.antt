-- What the laws of pool bundles say.
--     made_pool ks us         what is lent by the pool bundle of the keys ks and the units us
--     MadePoolIsRead          a pool bundle that was made is one, and lends just what it is made of
--     OnePoolFile             bundles leave one pool bundle of each packing
use Rattle.std.specs.Prelude.{◌≡◌, ℕ, List}
use Rattle.resb_layout.specs.KeyBlock.{key_bytes, padded}
use Rattle.resb_layout.specs.Written.{even}
use Rattle.resb_pool_bundle.specs.Checksum.{checksum_of}
use Rattle.resb_pool_bundle.specs.FileWith.{IsPoolFile}
use Rattle.resb_pool_bundle.specs.Pool.{Pool, pool_of}
use Rattle.resb_pool_maker.specs.PoolFile.{blocks_checksum}
use Rattle.resb_pool.specs.declared.packing.Packing.{Packing}
use Rattle.resb_pool_maker.specs.PoolOf.{Bundle, IsPoolOfBy, pool_keys_by}

-- the keys, each with its zero byte, and the units, both filled to a word, and their checksum
abbrev pub made_pool : List (List ℕ) → List ℕ → Pool
made_pool ks us = record {
  keys = padded (key_bytes ks);
  block = even us;
  checksum = blocks_checksum (padded (key_bytes ks)) (even us);
}

-- the pool bundle of bundles passes each check of one, lends their keys and the units of the
-- records that they share, and has the checksum of these
abbrev pub MadePoolIsRead : Type 0
MadePoolIsRead =
    (q : Packing) (bytes : List ℕ) (bs : List Bundle) (p : IsPoolOfBy q bytes bs)
    → IsPoolFile bytes × (pool_of bytes ≡ made_pool (pool_keys_by q bs) p.units)
    × (checksum_of (pool_of bytes) ≡ (pool_of bytes).checksum)

-- two pool bundles of the same bundles in the same order and packing are the same bytes
abbrev pub OnePoolFile : Type 0
OnePoolFile =
    (q : Packing) (bytes others : List ℕ) (bs : List Bundle) → IsPoolOfBy q bytes bs
    → IsPoolOfBy q others bs → bytes ≡ others
