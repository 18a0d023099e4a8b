use Rattle.std.proofs.Common.{◌≡◌, length}
use Rattle.std.specs.Str.Iter.{chars_rest}
use Rattle.resb_pool.specs.Order.{start_cmp}
use Rattle.resb_pool.specs.declared.packing.Packing.TheVariants.{Compact}
use Rattle.resb_pool.proofs.letters.compare_units.Given as goal

abbrev pub invariant-loop-x : goal.invariant-loop-x
invariant-loop-x l = start_cmp Compact l.left l.right
    ≡ start_cmp Compact (chars_rest l.lefts) (chars_rest l.rights)

abbrev pub decreases-loop-x : goal.decreases-loop-x
decreases-loop-x l = length (chars_rest l.lefts)
