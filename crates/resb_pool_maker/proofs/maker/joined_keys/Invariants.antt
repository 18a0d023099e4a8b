use Rattle.std.proofs.Common.{◌≡◌, take}
use Rattle.resb_pool.specs.Plan.{nows}
use Rattle.resb_pool_maker.specs.Inner.Given.{gift_keys}
use Rattle.resb_pool_maker.specs.PoolOf.{each_once}
use Rattle.resb_pool_maker.proofs.maker.joined_keys.Given as goal

abbrev pub invariant-loop-gift : goal.invariant-loop-gift
invariant-loop-gift l =
    nows l.set.keys ≡ each_once (gift_keys l.packing (take l.gift-index l.gifts))
