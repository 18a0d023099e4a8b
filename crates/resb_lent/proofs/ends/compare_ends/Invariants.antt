use Rattle.std.proofs.Common.{◌≡◌, reverse, drop}
use Rattle.resb_pool.specs.Order.{end_last_cmp}
use Rattle.resb_lent.proofs.ends.compare_ends.Given as goal

abbrev pub invariant-loop-at : goal.invariant-loop-at
invariant-loop-at l = end_last_cmp (reverse l.left) (reverse l.right)
    ≡ end_last_cmp (drop l.at (reverse l.left)) (drop l.at (reverse l.right))
