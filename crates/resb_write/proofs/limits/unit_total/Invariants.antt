use Rattle.std.proofs.Common.{◌≡◌, ◌-◌, ◌^◌, min, take}
use Rattle.resb_pool.specs.Plan.{nows}
use Rattle.resb_write.specs.Inner.Gathered.{units_in}
use Rattle.resb_write.proofs.limits.unit_total.Given as goal

abbrev pub invariant-loop-text : goal.invariant-loop-text
invariant-loop-text l = l.total ≡ min (units_in (nows (take l.text-index l.texts))) (2 ^ 64 - 1)
