use Rattle.std.proofs.Common.{◌≡◌, take}
use Rattle.resb_pool.specs.Plan.{nows}
use Rattle.resb_pool_maker.specs.Inner.Given.{gift_records}
use Rattle.resb_pool_maker.proofs.maker.given_records.Given as goal

abbrev pub invariant-loop-gift : goal.invariant-loop-gift
invariant-loop-gift l =
    nows l.texts.items ≡ gift_records (take l.gift-index l.gifts)
