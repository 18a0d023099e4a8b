-- Data of ICU's in either order of bytes.
--     data_of bytes           what bytes begin as
--     IsLittleEndian d from to    the second bytes are the first ones in little-endian order, where
--                             these begin as d
--     HasNoLittleEndian d bytes e     why there are none
--     HasLittleTable, HasNoLittleTable        the same of a package and its table alone
--     InEitherOrder P file    P holds of the file in little-endian order
--     DenotesInOrder pool file t n    the file denotes the tree t, of n resources
--     LendsInOrder file pool          the file is a pool bundle that lends this
use Rattle.std.specs.Prelude.{◌≡◌, ◌⊎◌, ℕ, List, [], ◌∷◌, length, Bool, true, false, not, ◌==◌}
use Rattle.std.specs.Prelude.{Option}
use Rattle.std.specs.Prelude.{◌&&◌, ◌||◌, nat_le, nat_lt, slice_index, slice_range, codes}
use Rattle.std.specs.Prelude.{if◌then◌else◌}
use Rattle.std.specs.Str.{bytes_eq}
use Rattle.resb_head.specs.declared.endianness.Endianness.{Endianness}
use Rattle.resb_head.specs.declared.endianness.Endianness.TheVariants.{Little, Big}
use Rattle.resb_tree.specs.Tree.{Tree}
use Rattle.resb_pool_bundle.specs.FileWith.{IsPoolFile, DenotesWith}
use Rattle.resb_pool_bundle.specs.Pool.{Pool, pool_of}
use Rattle.resb_swap.specs.Numbers.{is_big}
use Rattle.resb_swap.specs.Swapped.{IsSwapped}
use Rattle.resb_swap.specs.Packages.{IsTurned}
use Rattle.resb_swap.specs.Faults.{IsFault}
use Rattle.resb_swap.specs.PackageFaults.{IsPackageFault}
use Rattle.resb_swap.specs.declared.error.SwapError.{SwapError}
use Rattle.resb_swap.specs.declared.error.SwapError.TheVariants as error
use Rattle.resb_swap.specs.declared.package_error.PackageSwapError.{PackageSwapError}
use Rattle.resb_swap.specs.declared.order.IcuData.{IcuData}
use Rattle.resb_swap.specs.declared.order.IcuData.TheVariants.{Ebcdic, Bundle, Package, Other}

-- ICU's magic word, and an order of bytes that ICU knows
abbrev pub has_magic : List ℕ → Bool
has_magic bytes =
    bytes_eq (slice_range bytes 2 4) (0xda ∷ 0x27 ∷ []) && nat_le (slice_index bytes 8) 1

-- the order of bytes that a header says
abbrev pub order_in : List ℕ → Endianness
order_in bytes = if is_big bytes then Big else Little

-- what bytes begin as: other data without a whole header of ICU's; by the data format a package or
-- a bundle, and that in EBCDIC or not; or other data again
unfoldable pub data_of : List ℕ → IcuData
data_of bytes =
    if nat_lt (length bytes) 24 || not (has_magic bytes) then Other
    else if bytes_eq (slice_range bytes 12 16) (codes "CmnD") then Package (order_in bytes)
    else if not (bytes_eq (slice_range bytes 12 16) (codes "ResB")) then Other
    else if slice_index bytes 9 == 1 then Ebcdic
    else Bundle (order_in bytes)

-- a big-endian bundle is mirrored, one in EBCDIC has no such bytes, and anything else is itself
abbrev pub IsLittleEndian : IcuData → List ℕ → List ℕ → Type 0
IsLittleEndian Ebcdic from to = ⊥
IsLittleEndian (Bundle Big) from to = IsSwapped from to
IsLittleEndian _ from to = to ≡ from

-- it is in EBCDIC, or big-endian and not swapped
abbrev pub HasNoLittleEndian : IcuData → List ℕ → SwapError → Type 0
HasNoLittleEndian Ebcdic bytes e = e ≡ error.Ebcdic
HasNoLittleEndian (Bundle Big) bytes e = IsFault bytes e
HasNoLittleEndian _ bytes e = ⊥

-- header and table of a big-endian package are turned, and anything else is itself
abbrev pub HasLittleTable : IcuData → List ℕ → List ℕ → Type 0
HasLittleTable (Package Big) from to = IsTurned from to (length from)
HasLittleTable _ from to = to ≡ from

-- the package is big-endian, and its table isn't turned
abbrev pub HasNoLittleTable : IcuData → List ℕ → PackageSwapError → Type 0
HasNoLittleTable (Package Big) bytes e = IsPackageFault bytes e
HasNoLittleTable _ bytes e = ⊥

-- the file is little-endian and this holds of it, or it is big-endian and this holds of the file
-- that it is the mirror of
abbrev pub InEitherOrder : (List ℕ → Type 0) → List ℕ → Type 0
InEitherOrder P file =
    ((is_big file ≡ false) × P file)
    ⊎ ((is_big file ≡ true) × ((little : List ℕ) × (IsSwapped file little × P little)))

-- beside the pool that is given, if one is, the file denotes the tree, of n resources: it itself
-- where it is little-endian, else the file that it is the mirror of
abbrev pub DenotesInOrder : Option Pool → List ℕ → Tree → ℕ → Type 0
DenotesInOrder pool file t n = InEitherOrder (λ bytes. DenotesWith pool bytes t n) file

-- the file, or that of which it is the mirror, is a pool bundle, and lends this
abbrev pub LendsInOrder : List ℕ → Pool → Type 0
LendsInOrder file pool =
    InEitherOrder (λ bytes. IsPoolFile bytes × (pool_of bytes ≡ pool)) file
