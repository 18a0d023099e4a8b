use Rattle.std.proofs.Common.{◌≡◌, ◌-◌, ◌^◌, min, length, take}
use Rattle.resb_layout.specs.KeyBlock.{key_bytes}
use Rattle.resb_pool.specs.Plan.{nows}
use Rattle.resb_pool_maker.proofs.maker.check_near.Given as goal

abbrev pub invariant-loop-key : goal.invariant-loop-key
invariant-loop-key l =
    l.length ≡ min (length (key_bytes (nows (take l.key-index l.keys)))) (2 ^ 64 - 1)
