-- Places that positions and indexes tell, in a block of the file's own or of its pool.
--     TellsKey f k at         the position k tells this place of a key block
--     TellsText f i at        the index i tells this place of a 16-bit block
--     pool_keys pool, pool_block pool      the pool's blocks, if there is a pool
use Rattle.std.specs.Prelude.{ℕ, List, ◌≡◌, Option, Some, option_map}
use Rattle.resb_format.specs.Bytes.{units_of}
use Rattle.resb_format.specs.Lookups.{key_place, text_place}
use Rattle.resb_format.specs.Parts.{parts_in}
use Rattle.resb_format.specs.declared.file_blocks.FileBlocks.{FileBlocks}
use Rattle.resb_format.specs.declared.file_blocks.PoolBlocks.{PoolBlocks}
use Rattle.resb_walk.specs.declared.places.Place.{Place}
use Rattle.resb_walk.specs.declared.places.Place.TheVariants.{Own, Lent}

-- the key's byte in the own key block, or in that of the file's pool
abbrev pub TellsKey : FileBlocks → ℕ → Place → Type 0
TellsKey f k (Own at) = key_place (parts_in f) k ≡ (f.keys.now, at)
TellsKey f k (Lent l at) = (f.pool ≡ Some l) × (key_place (parts_in f) k ≡ (l.keys.now, at))

-- the string's unit in the own 16-bit block, or in that of the file's pool
abbrev pub TellsText : FileBlocks → ℕ → Place → Type 0
TellsText f i (Own at) = text_place (parts_in f) i ≡ (units_of f.block.now, at)
TellsText f i (Lent l at) =
    (f.pool ≡ Some l) × (text_place (parts_in f) i ≡ (units_of l.block.now, at))

-- the pool's key block, if there is a pool
abbrev pub pool_keys : Option PoolBlocks → Option (List ℕ)
pool_keys pool = option_map (λ l. l.keys.now) pool

-- the pool's 16-bit block in bytes, if there is a pool
abbrev pub pool_block : Option PoolBlocks → Option (List ℕ)
pool_block pool = option_map (λ l. l.block.now) pool
