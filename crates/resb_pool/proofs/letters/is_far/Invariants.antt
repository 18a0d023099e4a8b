use Rattle.std.proofs.Common.{◌≡◌, drop}
use Rattle.std.specs.Prelude.{◌||◌}
use Rattle.resb_pool.specs.Inner.Ranks.{has_far}
use Rattle.resb_pool.proofs.letters.is_far.Given as goal

abbrev pub invariant-loop-byte : goal.invariant-loop-byte
invariant-loop-byte l = (has_far (drop l.byte-index l.byte-items) || l.is_found) ≡ has_far l.text
