use Rattle.std.proofs.Common.{◌≡◌, ◌-◌, ◌^◌, min, take}
use Rattle.resb_layout.specs.PlainSize.{list_size}
use Rattle.resb_write.proofs.limits.listed_size.Given as goal

abbrev pub invariant-loop-key : goal.invariant-loop-key
invariant-loop-key l = l.size ≡ min (list_size (take l.key-index l.list)) (2 ^ 64 - 1)
