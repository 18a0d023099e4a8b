-- What the pool bundle of some bundles is. (ICU's `reslist.cpp`, as its compiler does it for
-- `--writePoolBundle`.)
--     Bundle                  a bundle that a pool is made of
--     pool_keys_by q bs       the keys that the pool of the bundles bs has, packed like this
--     GiveRecords bs S        S are the records that the bundles bs give
--     IsPoolOfBy q bytes bs   the bytes are the pool bundle of the bundles bs, packed like this;
--                             the compact one is what ICU's `genrb` makes of them
use Rattle.std.specs.Prelude.{◌≡◌, ℕ, ◌<◌, ◌≤◌, ◌^◌, List, [], ◌∷◌, ◌++◌, length, slice_index}
use Rattle.std.specs.Prelude.{if◌then◌else◌, false}
use Rattle.std.specs.List.{flat_map, fold, list_any}
use Rattle.resb_tree.specs.Tree.{Tree}
use Rattle.resb_tree.specs.LayingOrder.{texts_of, keys_of}
use Rattle.resb_layout.specs.KeyBlock.{is_among, used, key_bytes, padded}
use Rattle.resb_layout.specs.CompactKeys.{keys_by}
use Rattle.resb_pool.specs.declared.packing.Packing.{Packing}
use Rattle.resb_pool.specs.declared.packing.Packing.TheVariants.{Plain}
use Rattle.resb_layout.specs.Written.{even}
use Rattle.resb_layout.specs.TreeFaults.{has_nul}
use Rattle.resb_pool.specs.Shared.{InPoolOrder, IsSharedPool}
use Rattle.resb_pool_maker.specs.PoolFile.{pool_file, blocks_checksum}

-- a bundle: its tree, and the list of its keys
pub record Bundle : Type 0 where
  pub tree : Tree
  pub keys : List (List ℕ)

-- the listed keys that tables of the bundle have, in the list's order
abbrev pub used_keys : Bundle → List (List ℕ)
used_keys b = used (keys_of b.tree) b.keys

-- a key behind those that came before it, unless it is one of them
abbrev pub join_key : List (List ℕ) → List ℕ → List (List ℕ)
join_key ks k = if is_among ks k then ks else ks ++ k ∷ []

-- keys, each once, in the order in which they first come
abbrev pub each_once : List (List ℕ) → List (List ℕ)
each_once ks = fold join_key [] ks

-- the used keys of the first bundle, and then of each other one those that are new; where the pool
-- is compact, of each bundle those that lie in themselves, and of all that are given those that do
abbrev pub pool_keys_by : Packing → List Bundle → List (List ℕ)
pool_keys_by q bs = keys_by q (each_once (flat_map (λ b. keys_by q (used_keys b)) bs))

-- each bundle gives the texts that get a record among its own strings, each of them once, so that
-- what is repeated inside one bundle counts once, and in their order in a plain file of the bundle
pub data GiveRecords : List Bundle → List (List ℕ) → Type 0 where
  give_none : GiveRecords [] []
  give_more : {b : Bundle} {bs : List Bundle} {Q S : List (List ℕ)}
      → InPoolOrder Plain (texts_of b.tree) Q → GiveRecords bs S → GiveRecords (b ∷ bs) (Q ++ S)

-- how many units a record has to save so that it stands in the pool
abbrev pub least_saved : ℕ
least_saved = 10

-- the file of the bundles' keys, of which none holds U+0000, and of those records that save enough
-- over all that are given
pub record IsPoolOfBy (packing : Packing) (bytes : List ℕ) (bs : List Bundle) : Type 0 where
  pub given : List (List ℕ)
  pub gives : GiveRecords bs given
  pub units : List ℕ
  pub shared : IsSharedPool packing given least_saved units
  pub plain : list_any has_nul (pool_keys_by packing bs) ≡ false
  -- each key has a position below 2^31, each unit 16 bits, and the checksum 32
  pub near : length (key_bytes (pool_keys_by packing bs)) ≤ 2 ^ 31
  pub units_fit : (k : ℕ) → slice_index units k < 2 ^ 16
  pub checksum_fits :
      blocks_checksum (padded (key_bytes (pool_keys_by packing bs))) (even units) < 2 ^ 32
  pub file : bytes ≡ pool_file packing (pool_keys_by packing bs) units
