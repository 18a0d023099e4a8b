use Rattle.std.proofs.Common.{◌≡◌, take, filter}
use Rattle.resb_layout.specs.KeyBlock.{is_among}
use Rattle.resb_pool.specs.Plan.{nows}
use Rattle.resb_pool_maker.specs.Holding.{bytes_each}
use Rattle.resb_pool_maker.proofs.gathering.keys_among.Given as goal

abbrev pub invariant-loop-key : goal.invariant-loop-key
invariant-loop-key l =
    bytes_each l.found.items ≡ filter (is_among (nows l.set.keys)) (take l.key-index l.list)
