-- What each tree is that a resource stands for: the keys of its tables ascend, and its numbers and
-- bytes are in their ranges.
use Rattle.std.specs.Prelude.{ℕ, ◌<◌, ◌^◌, List, length, slice_index}
use Rattle.std.specs.List.Sorted.{IsStrictlySortedBy}
use Rattle.resb_tree.specs.Tree.{Tree, array, table, binary, integer, int_vector}
use Rattle.resb_tree.specs.Tree.{Trees, no_trees, more_trees, Entries, no_entries, entry}
use Rattle.resb_tree.specs.Maps.{text_cmp}
use Rattle.resb_tree.specs.LayingOrder.{entry_keys}

-- each number is below the limit
abbrev pub AreBelow : ℕ → List ℕ → Type 0
AreBelow limit ns = (k : ℕ) → k < length ns → slice_index ns k < limit

abbrev mutual
  -- some resource may stand for the tree: keys ascend, and numbers and bytes are in their ranges
  pub IsHeld : Tree → Type 0
  IsHeld (array ts) = AreHeld ts
  IsHeld (table es) = IsStrictlySortedBy text_cmp (entry_keys es) × HeldIn es
  IsHeld (binary bs) = AreBelow 256 bs
  IsHeld (integer n) = n < 2 ^ 28
  IsHeld (int_vector ns) = AreBelow (2 ^ 32) ns
  IsHeld _ = Unit {0}

  -- so for trees
  pub AreHeld : Trees → Type 0
  AreHeld no_trees = Unit {0}
  AreHeld (more_trees t ts) = IsHeld t × AreHeld ts

  -- so for the trees of entries
  pub HeldIn : Entries → Type 0
  HeldIn no_entries = Unit {0}
  HeldIn (entry k t es) = IsHeld t × HeldIn es
