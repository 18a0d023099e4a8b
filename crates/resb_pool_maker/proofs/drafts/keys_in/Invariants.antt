use Rattle.std.proofs.Common.{◌≡◌, map, take}
use Rattle.std.specs.List.{flat_map}
use Rattle.resb_draft.specs.Drafts.{tree_at}
use Rattle.resb_pool.specs.Plan.{nows}
use Rattle.resb_tree.specs.LayingOrder.{own_keys}
use Rattle.resb_pool_maker.specs.PoolOf.{each_once}
use Rattle.resb_pool_maker.proofs.drafts.keys_in.Given as goal

abbrev pub invariant-loop-at : goal.invariant-loop-at
invariant-loop-at l =
    nows l.set.keys
    ≡ each_once (flat_map own_keys (map (tree_at l.draft) (take l.at l.order)))
