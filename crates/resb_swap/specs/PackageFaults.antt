-- Why a package isn't swapped.
--     IsPackageFault bytes e      the error names what is so
--     IsPlaceFault f e, IsItemFault f e       it is where an item or a name stands, or an item
use Rattle.std.specs.Prelude.{◌≡◌, ◌≢◌, ℕ, ◌+◌, ◌*◌, ◌<◌, ◌≤◌, ◌⊎◌, List, length, false}
use Rattle.std.specs.Prelude.{slice_index}
use Rattle.resb_swap.specs.Numbers.{Numbered, numbered, header_size, byte_in, word_count}
use Rattle.resb_swap.specs.Faults.{IsFault}
use Rattle.resb_swap.specs.Packages.{item_count, table_end, name_place, item_place, item_of}
use Rattle.resb_swap.specs.Packages.{is_package}
use Rattle.resb_swap.specs.declared.package_error.PackageSwapError.{PackageSwapError}
use Rattle.resb_swap.specs.declared.package_error.PackageSwapError.TheVariants as error

-- less than a header is there, it isn't a package's, or it says that it is shorter
abbrev pub HasNoPackageHead : List ℕ → Type 0
HasNoPackageHead bytes =
    (length bytes < 24) ⊎ ((is_package bytes ≡ false) ⊎ (header_size bytes < 24))

-- this item begins in the table, or behind the next one or the end of the file
abbrev pub IsItemAstray : Numbered → ℕ → Type 0
IsItemAstray f i =
    (i < item_count f)
    × ((item_place f i < table_end f) ⊎ (item_place f (i + 1) < item_place f i))

-- the name of this item begins in the table, or no zero byte ends it before the first item
abbrev pub IsNameAstray : Numbered → ℕ → Type 0
IsNameAstray f i =
    (i < item_count f) × ((name_place f i < table_end f)
    ⊎ ((z : ℕ) → name_place f i ≤ z → z < item_place f 0 → byte_in f z ≢ 0))

-- an item or a name isn't where it belongs
abbrev pub IsPlaceFault : Numbered → PackageSwapError → Type 0
IsPlaceFault f (error.ItemAstray i) = IsItemAstray f i
IsPlaceFault f (error.NameAstray i) = IsNameAstray f i
IsPlaceFault f _ = ⊥

-- an item is of another order than the package, or has no other one; or memory was wanted
abbrev pub IsItemFault : Numbered → PackageSwapError → Type 0
IsItemFault f (error.OtherOrder i) =
    (i < item_count f) × (slice_index (item_of f f.bytes i) 8 ≢ slice_index f.bytes 8)
IsItemFault f (error.Item i e) = (i < item_count f) × IsFault (item_of f f.bytes i) e
IsItemFault f error.NoMemory = Unit {0}
IsItemFault f e = IsPlaceFault f e

-- what is wrong with a package: with its head, with where its items or their names are, or with an
-- item
abbrev pub IsPackageFault : List ℕ → PackageSwapError → Type 0
IsPackageFault bytes error.NotPackage = HasNoPackageHead bytes
IsPackageFault bytes error.Ebcdic = slice_index bytes 9 ≢ 0
IsPackageFault bytes error.TableOutside =
    word_count (numbered bytes) ≤ 2 * item_count (numbered bytes)
IsPackageFault bytes e = IsItemFault (numbered bytes) e
