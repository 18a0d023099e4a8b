-- Why resources are too much for a file.
use Rattle.std.specs.Prelude.{◌≡◌, ℕ, ◌+◌, ◌^◌, ◌≤◌, List, Option, Some, None, option_map, codes}
use Rattle.std.specs.List.{flat_map}
use Rattle.std.specs.Option.{option_or}
use Rattle.resb_tree.specs.Tree.{Tree}
use Rattle.resb_layout.specs.WritingFault.{WritingFault, string_too_long, limit}
use Rattle.resb_pool.specs.Plan.{first_too_long}
use Rattle.resb_tree.specs.LayingOrder.{text_in}
use Rattle.resb_layout.specs.PlainSize.{list_size, resources_size}
use Rattle.resb_layout.specs.TreeFaults.{count_fault}

-- the first fault of the resources' sizes
abbrev pub size_fault : List Tree → Option WritingFault
size_fault ts =
    option_or (option_map string_too_long (first_too_long (flat_map text_in ts))) (count_fault ts)

pub data IsTooMuch (ts : List Tree) (ks : List (List ℕ)) : WritingFault → Type 0 where
  at_fault : {f : WritingFault} → size_fault ts ≡ Some f → IsTooMuch ts ks f
  too_large : size_fault ts ≡ None → 2 ^ 28 ≤ list_size ks + resources_size ts
      → IsTooMuch ts ks (limit (codes "file too large"))
