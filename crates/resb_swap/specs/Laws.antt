-- What the laws of this crate say.
--     SwapsBack               a file that was swapped is swapped back to the same bytes
--     SwapIsAsLong            a swapped file is as long as the file
--     OneSwap                 a file has one swapped file
--     TableTurnsBack          a package whose table was turned has the first one's once more
--     LittleEndianDenotes     the bytes that `little_endian` gives denote what their file does
--     PackageSwapsBack        a package that was swapped is swapped back to the same bytes
--     OnePackageSwap          a package has one swapped package
use Rattle.std.specs.Prelude.{◌≡◌, ◌≢◌, ◌↔◌, ℕ, List, length, Option}
use Rattle.resb_tree.specs.Tree.{Tree}
use Rattle.resb_pool_bundle.specs.FileWith.{IsPoolFile, DenotesWith}
use Rattle.resb_pool_bundle.specs.Pool.{Pool, pool_of}
use Rattle.resb_swap.specs.Orders.{data_of, IsLittleEndian, HasNoLittleEndian}
use Rattle.resb_swap.specs.Orders.{DenotesInOrder, LendsInOrder}
use Rattle.resb_swap.specs.Swapped.{IsSwapped}
use Rattle.resb_swap.specs.Packages.{IsTurned, IsSwappedPackage}
use Rattle.resb_swap.specs.declared.error.SwapError.{SwapError}
use Rattle.resb_swap.specs.declared.error.SwapError.TheVariants.{NoMemory}

-- the file in the other order of bytes has the first one as its own
abbrev pub SwapsBack : Type 0
SwapsBack = (from to : List ℕ) → IsSwapped from to → IsSwapped to from

-- both have the same number of bytes
abbrev pub SwapIsAsLong : Type 0
SwapIsAsLong = (from to : List ℕ) → IsSwapped from to → length to ≡ length from

-- a file has at most one in the other order of bytes
abbrev pub OneSwap : Type 0
OneSwap = (from to other : List ℕ) → IsSwapped from to → IsSwapped from other → to ≡ other

-- the little-endian bytes of a file denote a tree exactly where the file does in its order, and lend
-- a pool exactly where it does; and a file that has none denotes no tree and lends nothing, memory
-- aside
pub record LittleEndianDenotes : Type 0 where
  pub tree : (pool : Option Pool) (file little : List ℕ) (t : Tree) (n : ℕ)
      → IsLittleEndian (data_of file) file little
      → DenotesWith pool little t n ↔ DenotesInOrder pool file t n
  pub pool : (file little : List ℕ) (p : Pool) → IsLittleEndian (data_of file) file little
      → (IsPoolFile little × (pool_of little ≡ p)) ↔ LendsInOrder file p
  pub no_tree : (pool : Option Pool) (file : List ℕ) (e : SwapError) (t : Tree) (n : ℕ)
      → HasNoLittleEndian (data_of file) file e → e ≢ NoMemory → DenotesInOrder pool file t n → ⊥
  pub no_pool : (file : List ℕ) (e : SwapError) (p : Pool)
      → HasNoLittleEndian (data_of file) file e → e ≢ NoMemory → LendsInOrder file p → ⊥

-- header and table of a package that were turned are turned back to the same bytes
abbrev pub TableTurnsBack : Type 0
TableTurnsBack =
    (from to : List ℕ) → IsTurned from to (length from) → IsTurned to from (length from)

-- the package in the other order of bytes has the first one as its own
abbrev pub PackageSwapsBack : Type 0
PackageSwapsBack = (from to : List ℕ) → IsSwappedPackage from to → IsSwappedPackage to from

-- a package has at most one in the other order of bytes
abbrev pub OnePackageSwap : Type 0
OnePackageSwap =
    (from to other : List ℕ) → IsSwappedPackage from to → IsSwappedPackage from other → to ≡ other
