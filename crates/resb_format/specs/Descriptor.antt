-- A descriptor: its type, its value, and its word of 4 bits of type and 28 bits of value. (ICU's
-- `uresdata.h`: `URES_STRING` and those below.)
--     type_number t           the number by which a file names the type t
use Rattle.std.specs.Prelude.{ℕ, ◌+◌, ◌*◌, ◌^◌}
use Rattle.resb_format.specs.declared.repr_type.ResourceReprType.{ResourceReprType}
use Rattle.resb_format.specs.declared.repr_type.ResourceReprType.TheVariants as kind
use Rattle.resb_format.specs.declared.descriptor.ResDescriptor.{ResDescriptor}

-- the number by which a descriptor names each type
abbrev pub type_number : ResourceReprType → ℕ
-- a string of an older format, in the body
type_number kind._String = 0
-- bytes
type_number kind.Binary = 1
-- a table with key positions of 16 bits and members of 32 bits
type_number kind.Table = 2
-- an alias of another resource, by its path, which stands in the body
type_number kind._Alias = 3
-- a table with 32-bit key positions
type_number kind._Table32 = 4
-- a table of strings in the 16-bit block
type_number kind.Table16 = 5
-- a string of the 16-bit block
type_number kind.StringV2 = 6
-- an integer of 28 bits, in the descriptor itself
type_number kind.Int = 7
-- an array with members of 32 bits
type_number kind.Array = 8
-- an array of strings in the 16-bit block
type_number kind.Array16 = 9
-- a vector of numbers of 32 bits
type_number kind.IntVector = 14

-- a descriptor's type
abbrev pub type_of : ResDescriptor → ResourceReprType
type_of d = d.resource_type

-- a descriptor's value, of 28 bits
abbrev pub value_of : ResDescriptor → ℕ
value_of d = d.value

-- a descriptor's word: the type's number in the 4 bits above the value
abbrev pub word_of : ResDescriptor → ℕ
word_of d = type_number (type_of d) * 2 ^ 28 + value_of d
