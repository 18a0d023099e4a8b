-- What is printed where bytes are no package.
--     message_of e            the text that an error prints as
use Rattle.std.specs.Prelude.{ℕ, List, ◌++◌, codes}
use Rattle.std.specs.Fmt.{decimal}
use Rattle.resb_package.specs.declared.error.PackageError.{PackageError}
use Rattle.resb_package.specs.declared.error.PackageError.TheVariants.{TooShort, NotData}
use Rattle.resb_package.specs.declared.error.PackageError.TheVariants.{NotLittleEndian}
use Rattle.resb_package.specs.declared.error.PackageError.TheVariants.{NotAsciiFamily, NotPackage}
use Rattle.resb_package.specs.declared.error.PackageError.TheVariants.{OtherVersion, HeaderTooSmall}
use Rattle.resb_package.specs.declared.error.PackageError.TheVariants.{TableOutside, NameOutside}
use Rattle.resb_package.specs.declared.error.PackageError.TheVariants.{NameWithoutEnd, NameNotAscii}
use Rattle.resb_package.specs.declared.error.PackageError.TheVariants.{ItemOutside, ItemsOutOfOrder}
use Rattle.resb_package.specs.declared.error.PackageError.TheVariants.{NamesOutOfOrder}

-- what each refusal prints
abbrev pub message_of : PackageError → List ℕ
message_of TooShort = codes "too short for the header of a package"
message_of NotData = codes "not an ICU data file"
message_of NotLittleEndian = codes "the numbers are not in little-endian order"
message_of NotAsciiFamily = codes "the names are not of the ASCII family of character sets"
message_of NotPackage = codes "not a package, but another kind of ICU data"
message_of OtherVersion = codes "the package's format version is not 1"
message_of HeaderTooSmall = codes "the header's size is less than 24 bytes"
message_of TableOutside = codes "the table of items runs past the end of the file"
message_of (NameOutside i) =
    codes "the name of item " ++ (decimal i ++ codes " lies past the end of the file")
message_of (NameWithoutEnd i) =
    codes "the name of item " ++ (decimal i ++ codes " has no end before the next name")
message_of (NameNotAscii i) = codes "the name of item " ++ (decimal i ++ codes " is not ASCII")
message_of (ItemOutside i) = codes "item " ++ (decimal i ++ codes " lies past the end of the file")
message_of (ItemsOutOfOrder i) = codes "item " ++ (decimal i ++ codes " begins behind the next one")
message_of (NamesOutOfOrder i) =
    codes "the name of item " ++ (decimal i ++ codes " is not above the one before it")
