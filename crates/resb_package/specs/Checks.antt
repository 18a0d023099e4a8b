-- The checks of a package in their order, and what is answered for the first that fails.
--     head_checks bytes       the checks of the header
--     IsFirstHead bytes at    the first header that stands inside a file
--     item_checks table i     those of the name and the item with a number
--     order_check table i     that a name is below the next one
--     package_refusal bytes   what is answered for the first of all that fails
use Rattle.std.specs.Prelude.{◌≡◌, ◌<◌, ℕ, zero, suc, ◌+◌, ◌-◌, ◌*◌, List, [], ◌∷◌, length, drop}
use Rattle.std.specs.Prelude.{Bool, nat_le}
use Rattle.std.specs.Prelude.{nat_lt, nat_eq, Option, Some, None, slice_index, slice_range, codes}
use Rattle.std.specs.Prelude.{is_some, if◌then◌else◌}
use Rattle.std.specs.List.{list_all}
use Rattle.std.specs.Option.{option_or}
use Rattle.std.specs.Str.{bytes_eq}
use Rattle.std.specs.Ordering.{nat_cmp, is_lt}
use Rattle.std.specs.Cmp.Lexicographic.{slice_cmp}
use Rattle.resb_format.specs.Bytes.{header_size}
use Rattle.resb_format.specs.Error.{first_refusal}
use Rattle.resb_package.specs.Table.{table_of, count_in, name_from, item_from}
use Rattle.resb_package.specs.Table.{item_to, name_at, name_in}
use Rattle.resb_package.specs.declared.error.PackageError.{PackageError}
use Rattle.resb_package.specs.declared.error.PackageError.TheVariants.{TooShort, NotData}
use Rattle.resb_package.specs.declared.error.PackageError.TheVariants.{NotLittleEndian}
use Rattle.resb_package.specs.declared.error.PackageError.TheVariants.{NotAsciiFamily, NotPackage}
use Rattle.resb_package.specs.declared.error.PackageError.TheVariants.{OtherVersion, HeaderTooSmall}
use Rattle.resb_package.specs.declared.error.PackageError.TheVariants.{TableOutside, NameOutside}
use Rattle.resb_package.specs.declared.error.PackageError.TheVariants.{NameWithoutEnd, NameNotAscii}
use Rattle.resb_package.specs.declared.error.PackageError.TheVariants.{ItemOutside, ItemsOutOfOrder}
use Rattle.resb_package.specs.declared.error.PackageError.TheVariants.{NamesOutOfOrder}

-- the checks of the header, in their order, each with its refusal
unfoldable pub head_checks : List ℕ → List (Bool × PackageError)
head_checks bytes =
    (nat_le 24 (length bytes), TooShort)
    ∷ (bytes_eq (slice_range bytes 2 4) (0xda ∷ 0x27 ∷ []), NotData)
    ∷ (nat_eq (slice_index bytes 8) 0, NotLittleEndian)
    ∷ (nat_eq (slice_index bytes 9) 0, NotAsciiFamily)
    ∷ (bytes_eq (slice_range bytes 12 16) (codes "CmnD"), NotPackage)
    ∷ (nat_eq (slice_index bytes 16) 1, OtherVersion)
    ∷ (nat_le 24 (header_size bytes), HeaderTooSmall)
    ∷ []

-- the header of a package stands at this place
abbrev pub HasHead : List ℕ → ℕ → Type 0
HasHead bytes at = first_refusal (head_checks (drop at bytes)) ≡ None

-- of the places that are multiples of 16 this is the first where such a header stands
pub record IsFirstHead (bytes : List ℕ) (at : ℕ) : Type 0 where
  pub number : ℕ
  pub multiple : at ≡ 16 * number
  pub stands : HasHead bytes at
  pub first : (k : ℕ) → k < number → HasHead bytes (16 * k) → ⊥

-- no header of a package stands at a multiple of 16
abbrev pub HasNoHead : List ℕ → Type 0
HasNoHead bytes = (k : ℕ) → HasHead bytes (16 * k) → ⊥

-- the checks of the name and the item with this number, in their order, each with its refusal
unfoldable pub item_checks : List ℕ → ℕ → List (Bool × PackageError)
item_checks table i =
    (nat_lt (name_from table i) (length table), NameOutside i)
    ∷ (is_some (name_at table i), NameWithoutEnd i)
    ∷ (list_all (λ b. nat_lt b 128) (name_in table i), NameNotAscii i)
    ∷ (nat_le (item_from table i) (length table), ItemOutside i)
    ∷ (nat_le (item_from table i) (item_to table i), ItemsOutOfOrder i)
    ∷ []

-- the check that the name with this number is below the next one
unfoldable pub order_check : List ℕ → ℕ → List (Bool × PackageError)
order_check table i =
    (is_lt (slice_cmp nat_cmp (name_in table i) (name_in table (i + 1))), NamesOutOfOrder (i + 1))
    ∷ []

-- the first refusal of the checks of n numbers from i on
unfoldable pub refusal_from : (ℕ → List (Bool × PackageError)) → ℕ → ℕ → Option PackageError
refusal_from checks i zero = None
refusal_from checks i (suc n) =
    option_or (first_refusal (checks i)) (refusal_from checks (i + 1) n)

-- the first refusal behind the header: the table lies inside the file, then each item is checked,
-- then the order of the names
unfoldable pub table_refusal : List ℕ → Option PackageError
table_refusal table =
    if nat_le (4 + 8 * count_in table) (length table) then
    option_or (refusal_from (item_checks table) 0 (count_in table))
    (refusal_from (order_check table) 0 (count_in table - 1))
    else Some TableOutside

-- the first check of a whole file that fails
unfoldable pub package_refusal : List ℕ → Option PackageError
package_refusal bytes =
    option_or (first_refusal (head_checks bytes)) (table_refusal (table_of bytes))
