use Rattle.std.proofs.Common.{◌≡◌, take}
use Rattle.resb_pool.specs.Plan.{nows}
use Rattle.resb_pool_maker.specs.Holding.{bytes_each}
use Rattle.resb_pool_maker.proofs.gathering.owned.Given as goal

abbrev pub invariant-loop-text : goal.invariant-loop-text
invariant-loop-text l =
    bytes_each l.strings.items ≡ nows (take l.text-index l.texts)
