-- Why a tree isn't written with the keys of a list.
--     tree_fault t ks          the first fault, in the order in which they are answered
--     RefusesWriting t ks f    f may be the answer
use Rattle.std.specs.Prelude.{◌≡◌, ℕ, ◌^◌, ◌≤◌, List, length, Bool, false, nat_eq, nat_lt, codes}
use Rattle.std.specs.Prelude.{Option, Some, None, option_map, unwrap_or, if◌then◌else◌}
use Rattle.std.specs.List.{list_any}
use Rattle.std.specs.Option.{is_none, option_or}
use Rattle.resb_tree.specs.Tree.{Tree, alias, array, binary, int_vector}
use Rattle.resb_format.specs.Units.{units}
use Rattle.resb_layout.specs.WritingFault.{WritingFault, string_too_long, unexpected, limit}
use Rattle.resb_layout.specs.WritingFault.{out_of_memory}
use Rattle.resb_pool.specs.Plan.{first_too_long}
use Rattle.resb_tree.specs.LayingOrder.{laying_order, array_members, texts_of}
use Rattle.resb_layout.specs.KeyBlock.{used, position_in}
use Rattle.resb_tree.specs.LayingOrder.{keys_of}
use Rattle.resb_layout.specs.PlainSize.{plain_size}

-- the text holds U+0000, which alone has a byte 0
abbrev pub has_nul : List ℕ → Bool
has_nul text = list_any (λ b. nat_eq b 0) text

-- among the listed keys that are used, the key has no place
abbrev pub is_unlisted : List (List ℕ) → List ℕ → Bool
is_unlisted js k = is_none (position_in js k)

-- the key's place among the listed keys that are used is over 2147483647
abbrev pub is_far : List (List ℕ) → List ℕ → Bool
is_far js k = nat_lt 2147483647 (unwrap_or (position_in js k) 0)

-- of used keys us, and of those that are listed
abbrev pub key_fault : List (List ℕ) → List (List ℕ) → Option WritingFault
key_fault us js =
    if list_any (is_unlisted js) us then Some (unexpected (codes "key not present in position map"))
    else if list_any has_nul us then Some (unexpected (codes "key contains U+0000"))
    else if list_any (is_far js) us then Some (limit (codes "key position over 2147483647"))
    else None

-- an array, binary or vector, or an alias's path, whose count doesn't fit 32 bits
abbrev pub is_over_32_bits : Tree → Bool
is_over_32_bits (alias s) = nat_lt 4294967295 (length (units s))
is_over_32_bits (array ts) = nat_lt 4294967295 (length (array_members ts))
is_over_32_bits (binary bytes) = nat_lt 4294967295 (length bytes)
is_over_32_bits (int_vector ns) = nat_lt 4294967295 (length ns)
is_over_32_bits _ = false

-- the fault of trees of which one has a count over 32 bits
abbrev pub count_fault : List Tree → Option WritingFault
count_fault ts = if list_any is_over_32_bits ts then Some (limit (codes "count over 32 bits")) else
    None

-- the first fault of a tree and a list of keys: of its keys, of a string's length, of a count
abbrev pub tree_fault : Tree → List (List ℕ) → Option WritingFault
tree_fault t ks =
    option_or (key_fault (keys_of t) (used (keys_of t) ks))
    (option_or (option_map string_too_long (first_too_long (texts_of t))) (count_fault (laying_order
    t)))

-- want of memory, the first fault, or a plain size of 2^28 and more where there is no fault
pub data RefusesWriting (t : Tree) (ks : List (List ℕ)) : WritingFault → Type 0 where
  no_memory : RefusesWriting t ks out_of_memory
  at_the_first : {f : WritingFault} → tree_fault t ks ≡ Some f → RefusesWriting t ks f
  too_large : tree_fault t ks ≡ None → 2 ^ 28 ≤ plain_size t ks
      → RefusesWriting t ks (limit (codes "file too large"))
