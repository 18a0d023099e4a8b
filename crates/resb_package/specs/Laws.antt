-- What the laws of this crate say.
--     OnePackage              bytes are a package of one list of items
--     NamesDiffer             two items of a package have two names
--     PackagePasses           the checks let through exactly the packages
use Rattle.std.specs.Prelude.{◌≡◌, ◌≢◌, ℕ, ◌<◌, List, None, Some, slice_get}
use Rattle.resb_package.specs.Package.{IsPackage}
use Rattle.resb_package.specs.Checks.{package_refusal}

-- bytes are a package of at most one list of items
abbrev pub OnePackage : Type 0
OnePackage =
    (bytes : List ℕ) (items others : List (List ℕ × List ℕ)) → IsPackage bytes items
    → IsPackage bytes others → items ≡ others

-- two items of a package have two names
abbrev pub NamesDiffer : Type 0
NamesDiffer =
    (bytes : List ℕ) (items : List (List ℕ × List ℕ)) → IsPackage bytes items
    → (i j : ℕ) (item other : List ℕ × List ℕ) → i < j → slice_get items i ≡ Some item
    → slice_get items j ≡ Some other → item.0 ≢ other.0

-- no check fails exactly where the bytes are a package of some items
abbrev pub PackagePasses : Type 0
PackagePasses =
    (bytes : List ℕ)
    → (package_refusal bytes ≡ None → (items : List (List ℕ × List ℕ)) × IsPackage bytes items)
    × ((items : List (List ℕ × List ℕ)) → IsPackage bytes items → package_refusal bytes ≡ None)
