-- What a pool bundle lends, and the parts of a file beside one. (ICU's `uresdata.h`: pool bundles.)
--     Pool                    keys, units and the checksum of a pool bundle
--     pool_of bytes           those of a file that is one
--     pool_in p, block_in p   those that a value of the code shows, and its block's bytes
--     parts_with pool bytes   the parts of a file, of which aliases and strings of the older form
--                             are read too
use Rattle.std.specs.Prelude.{ℕ, ◌+◌, ◌-◌, ◌*◌, ◌&&◌, List, [], take, drop, nat_le, Option}
use Rattle.std.specs.Prelude.{Some, None, unwrap_or, if◌then◌else◌}
use Rattle.resb_format.specs.Bytes.{units_of}
use Rattle.resb_format.specs.Parts.{Parts, Lent, no_pool}
use Rattle.resb_head.specs.File.{body_of, keys_end}
use Rattle.resb_pool_bundle.specs.Fields.{index_length, uses_pool, checksum_in, block_end_in}
use Rattle.resb_pool_bundle.specs.Fields.{limit_in, short_limit_in}
use Rattle.resb_pool_bundle.specs.declared.pool_bundle.PoolBundle.{PoolBundle}

-- what a pool bundle lends: its keys in bytes, its 16-bit block in units, and the checksum by which
-- files know it
pub record Pool : Type 0 where
  pub keys : List ℕ
  pub block : List ℕ
  pub checksum : ℕ

-- the 16-bit block of a file, in bytes: from the keys' end up to its own
abbrev pub block_bytes : List ℕ → List ℕ
block_bytes bytes =
    take (4 * (block_end_in bytes - keys_end bytes)) (drop (4 * keys_end bytes) (body_of bytes))

-- a pool bundle's keys stand behind its index, up to the keys' end
unfoldable pub pool_of : List ℕ → Pool
pool_of bytes = record {
  keys =
      drop (4 * (1 + index_length bytes)) (take (4 * keys_end bytes) (body_of bytes));
  block = units_of (block_bytes bytes);
  checksum = unwrap_or (checksum_in bytes) 0;
}

-- the bytes of the 16-bit block that a value of the code holds
abbrev pub block_in : PoolBundle → List ℕ
block_in p = p.block.now

-- what a value of the code shows
abbrev pub pool_in : PoolBundle → Pool
pool_in p = record { keys = p.keys.now; block = units_of p.block.now; checksum = p.checksum }

-- the file's own keys: the body up to the keys' end, from whose start their positions count. A file
-- over a pool that has no key behind its index has none at all.
abbrev pub own_keys : List ℕ → List ℕ
own_keys bytes =
    if uses_pool bytes && nat_le (keys_end bytes) (1 + index_length bytes) then []
    else take (4 * keys_end bytes) (body_of bytes)

-- what a file takes from the pool
abbrev pub lent_by : List ℕ → Pool → Lent
lent_by bytes pool = record {
  keys = pool.keys;
  block = pool.block;
  limit = limit_in bytes;
  short_limit = short_limit_in bytes;
}

-- what a file takes from the pool that is given: nothing where it doesn't say that it uses one
abbrev pub lent_to : Option Pool → List ℕ → Lent
lent_to None bytes = no_pool
lent_to (Some pool) bytes = if uses_pool bytes then lent_by bytes pool else no_pool

-- the parts of a file beside the pool that is given
unfoldable pub parts_with : Option Pool → List ℕ → Parts
parts_with pool bytes = record {
  body = body_of bytes;
  keys = own_keys bytes;
  block = units_of (block_bytes bytes);
  lent = Some (lent_to pool bytes);
}
