-- Whether a resource that was read copies no bytes.
--     Borrows r               each Binary in it is the borrowed variant, a slice of the input
use Rattle.std.specs.Prelude.{◌≡◌, ℕ, List, map, Bool, true}
use Rattle.resb_tree.specs.Borrowing.{are_slice, all_true, each_leaf, each_entry}
use Rattle.resb_tree.specs.declared.resource.Resource.{Resource}

-- each binary of a resource is borrowed
abbrev pub borrows_binaries : Resource → Bool
borrows_binaries = each_leaf (λ s. true) are_slice

-- the same as a fact
abbrev pub Borrows : Resource → Type 0
Borrows r = borrows_binaries r ≡ true

-- each binary of each of the resources is borrowed
abbrev pub all_borrow : List Resource → Bool
all_borrow rs = all_true (map borrows_binaries rs)

-- each binary of the resource of each entry is borrowed
abbrev pub entries_borrow : List (List ℕ × Resource) → Bool
entries_borrow = each_entry (λ s. true) are_slice
