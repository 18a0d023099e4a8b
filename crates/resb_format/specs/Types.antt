-- Which numbers of types in a descriptor are those of tables, of arrays, and of what is read.
--     is_read_type n          a type that each call reads: all but the next two
--     is_older_type n         strings of the older formats, and aliases
use Rattle.std.specs.Prelude.{ℕ, Bool, ◌==◌, ◌&&◌, ◌||◌, not, nat_le}
use Rattle.resb_format.specs.Descriptor.{type_number}
use Rattle.resb_format.specs.declared.repr_type.ResourceReprType.TheVariants as kind

-- one of the three types of tables
abbrev pub is_table : ℕ → Bool
is_table n =
    (n == type_number kind.Table || n == type_number kind._Table32) || n == type_number kind.Table16

-- one of the two types of arrays
abbrev pub is_array : ℕ → Bool
is_array n = n == type_number kind.Array || n == type_number kind.Array16

-- an old string or an alias: a type that is read only where a pool, or none, is named
abbrev pub is_older_type : ℕ → Bool
is_older_type n = n == type_number kind._String || n == type_number kind._Alias

-- a type that each call reads: the numbers from the binary's to the new array's but for the
-- alias's, and that of vectors; not the old string, nor a number that names no type
abbrev pub is_read_type : ℕ → Bool
is_read_type n =
    ((nat_le 1 n && nat_le n 9) && not (n == type_number kind._Alias))
    || n == type_number kind.IntVector
