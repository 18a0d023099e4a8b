-- What an error prints.
use Rattle.std.specs.Prelude.{ℕ, List, ◌++◌, codes}
use Rattle.std.specs.Fmt.{decimal}
use Rattle.resb_format.specs.Error.{description_of, kind_of, message_of}
use Rattle.resb_swap.specs.declared.error.SwapError.{SwapError}
use Rattle.resb_swap.specs.declared.error.SwapError.TheVariants as error
use Rattle.resb_swap.specs.declared.package_error.PackageSwapError.{PackageSwapError}
use Rattle.resb_swap.specs.declared.package_error.PackageSwapError.TheVariants as refusal

-- what an error prints
abbrev pub printed : SwapError → List ℕ
printed (error.Header e) = description_of (kind_of e) ++ codes ": " ++ message_of e
printed error.Ebcdic = codes "written for an EBCDIC machine"
printed error.OtherCharacters = codes "characters of size other than 2 are not supported"
printed error.FirstVersion = codes "format version 1.0 is not supported"
printed error.NoIndex = codes "index, keys or 16-bit block lie outside the file"
printed error.Outside = codes "a resource lies outside the file"
printed error.TwoRoles = codes "two resources lie in one another"
printed error.UnknownType = codes "a resource has an unknown type"
printed error.Collation = codes "a collation's data has unknown parts"
printed error.NoMemory = codes "out of memory"

-- what an error of a package prints
abbrev pub package_printed : PackageSwapError → List ℕ
package_printed refusal.NotPackage = codes "not a package of ICU's data"
package_printed refusal.Ebcdic = codes "written for an EBCDIC machine"
package_printed refusal.TableOutside = codes "the table of items runs past the end of the file"
package_printed (refusal.ItemAstray i) =
    codes "item " ++ (decimal i ++ codes " begins in the table, or behind the next one")
package_printed (refusal.NameAstray i) =
    codes "the name of item "
    ++ (decimal i ++ codes " doesn't stand between the table and the items")
package_printed (refusal.OtherOrder i) =
    codes "item " ++ (decimal i ++ codes " has another order of bytes than the package")
package_printed (refusal.Item i e) = codes "item " ++ (decimal i ++ (codes ": " ++ printed e))
package_printed refusal.NoMemory = codes "out of memory"
