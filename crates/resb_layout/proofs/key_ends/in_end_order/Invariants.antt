use Rattle.std.proofs.Common.{◌≡◌, take}
use Rattle.resb_pool.specs.Plan.{nows}
use Rattle.resb_layout.proofs.key_ends.in_end_order.Given as goal

abbrev pub invariant-loop-key : goal.invariant-loop-key
invariant-loop-key l = nows l.sorted.items ≡ nows (take l.key-index l.keys)
