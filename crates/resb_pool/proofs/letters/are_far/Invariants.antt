use Rattle.std.proofs.Common.{◌≡◌, drop}
use Rattle.resb_pool.specs.Plan.{nows}
use Rattle.resb_pool.specs.Inner.Ranks.{any_far}
use Rattle.resb_pool.proofs.letters.are_far.Given as goal

abbrev pub invariant-loop-text : goal.invariant-loop-text
invariant-loop-text l = any_far (nows (drop l.text-index l.texts)) ≡ any_far (nows l.texts)
