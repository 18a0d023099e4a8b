-- A bound on the size of a written file that is known before it is laid out: from 2^28 on a writer
-- may refuse.
--     plain_size t ks         of a tree, with the keys of a list
use Rattle.std.specs.Prelude.{ℕ, ◌+◌, ◌*◌, ◌/◌, List, length}
use Rattle.std.specs.List.{sum_by}
use Rattle.resb_tree.specs.Tree.{Tree, string, alias, array, table, binary, integer, int_vector}
use Rattle.resb_format.specs.Units.{units}
use Rattle.resb_tree.specs.LayingOrder.{laying_order, array_members, values_of}

-- a string's or a path's units, 4 for each child, half the bytes, 2 for each number
abbrev pub held_size : Tree → ℕ
held_size (string s) = length (units s)
held_size (alias s) = length (units s)
held_size (array ts) = 4 * length (array_members ts)
held_size (table es) = 4 * length (values_of es)
held_size (binary s) = (length s + 1) / 2
held_size (integer n) = 0
held_size (int_vector ns) = 2 * length ns

-- 16 for each resource, and what it holds
abbrev pub resources_size : List Tree → ℕ
resources_size ts = sum_by (λ t. 16 + held_size t) ts

-- the bytes of each listed key and one more
abbrev pub list_size : List (List ℕ) → ℕ
list_size ks = sum_by (λ k. length k + 1) ks

-- the size that is compared with 2^28: the listed keys', and that of each resource
abbrev pub plain_size : Tree → List (List ℕ) → ℕ
plain_size t ks = list_size ks + resources_size (laying_order t)
