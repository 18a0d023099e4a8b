use Rattle.std.proofs.Common.{◌≡◌, take}
use Rattle.std.specs.List.{flat_map}
use Rattle.resb_pool.specs.Plan.{nows}
use Rattle.resb_tree.specs.LayingOrder.{own_keys, trees_in}
use Rattle.resb_pool_maker.specs.PoolOf.{each_once}
use Rattle.resb_pool_maker.proofs.gathering.keys_in.Given as goal

abbrev pub invariant-loop-at : goal.invariant-loop-at
invariant-loop-at l =
    nows l.set.keys ≡ each_once (flat_map own_keys (trees_in (take l.at l.order.items)))
