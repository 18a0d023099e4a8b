-- What a package and an item stand for.
--     package_items p         the names and items of a package, in their order
--     HasItem items name x    an item of this name has these bytes
use Rattle.std.specs.Prelude.{◌≡◌, ℕ, List, Some, slice_get}
use Rattle.resb_package.specs.Table.{items_in}
use Rattle.resb_package.specs.declared.package.Package.{Package}
use Rattle.resb_package.specs.declared.package.Item.{Item}

-- the names and items of a package, in their order
abbrev pub package_items : Package → List (List ℕ × List ℕ)
package_items p = items_in p.table.bytes.now

-- an item's name and bytes
abbrev pub item_pair : Item → List ℕ × List ℕ
item_pair item = (item.name.now, item.bytes.now)

-- one of the items has this name and these bytes
abbrev pub HasItem : List (List ℕ × List ℕ) → List ℕ → List ℕ → Type 0
HasItem items name bytes = (i : ℕ) × (slice_get items i ≡ Some (name, bytes))
