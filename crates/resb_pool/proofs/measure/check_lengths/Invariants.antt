use Rattle.std.proofs.Common.{◌≡◌, take, None}
use Rattle.resb_pool.specs.Plan.{nows, first_too_long}
use Rattle.resb_pool.proofs.measure.check_lengths.Given as goal

abbrev pub invariant-loop-text : goal.invariant-loop-text
invariant-loop-text l = first_too_long (nows (take l.text-index l.strings)) ≡ None
