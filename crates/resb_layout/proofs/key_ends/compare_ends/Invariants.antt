use Rattle.std.proofs.Common.{◌≡◌, reverse, drop}
use Rattle.resb_tree.specs.Maps.{text_cmp}
use Rattle.resb_layout.proofs.key_ends.compare_ends.Given as goal

abbrev pub invariant-loop-at : goal.invariant-loop-at
invariant-loop-at l = text_cmp (reverse l.left) (reverse l.right)
    ≡ text_cmp (drop l.at (reverse l.left)) (drop l.at (reverse l.right))
