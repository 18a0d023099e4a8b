-- The parts of a body. Which bytes of a file they are is said in `resb_head`. (ICU's `uresdata.h`.)
--     Parts                   a body, its key block and its 16-bit block, and what a pool lends
--     reads_older p           whether aliases and strings of the older form are read
--     beside_no_pool p        the parts of a file that uses no pool, read so that they are
--     parts_in f              those that a value of the code shows
use Rattle.std.specs.Prelude.{ℕ, List, [], Option, Some, option_map, Bool}
use Rattle.std.specs.Option.{is_some}
use Rattle.resb_format.specs.Bytes.{units_of}
use Rattle.resb_format.specs.declared.file_blocks.FileBlocks.{FileBlocks}
use Rattle.resb_format.specs.declared.file_blocks.PoolBlocks.{PoolBlocks}

-- what a file takes from a pool bundle: the pool's keys and units, and the first index of a string
-- that is the file's own, as a descriptor and as a unit tell it
pub record Lent : Type 0 where
  pub keys : List ℕ
  pub block : List ℕ
  pub limit : ℕ
  pub short_limit : ℕ

-- what a file takes that uses no pool: nothing
abbrev pub no_pool : Lent
no_pool = record { keys = []; block = []; limit = 0; short_limit = 0 }

-- The body is in bytes, as are the own keys, a part of it. The 16-bit block is in units. Where
-- nothing is said of a pool, the file is read as one of version 2.0 that uses none: an alias or a
-- string of the older form is refused then.
pub record Parts : Type 0 where
  pub body : List ℕ
  pub keys : List ℕ
  pub block : List ℕ
  pub lent : Option Lent

-- aliases and strings of the older form are read
abbrev pub reads_older : Parts → Bool
reads_older p = is_some p.lent

-- the same parts, beside the pool of a file that uses none
abbrev pub beside_no_pool : Parts → Parts
beside_no_pool p =
    record { body = p.body; keys = p.keys; block = p.block; lent = Some no_pool }

-- what a value of the code shows of a pool
abbrev pub lent_in : PoolBlocks → Lent
lent_in l = record {
  keys = l.keys.now;
  block = units_of l.block.now;
  limit = l.limit;
  short_limit = l.short_limit;
}

-- the parts of a file as the definitions see them
abbrev pub parts_in : FileBlocks → Parts
parts_in f = record {
  body = f.body.now;
  keys = f.keys.now;
  block = units_of f.block.now;
  lent = option_map lent_in f.pool;
}
