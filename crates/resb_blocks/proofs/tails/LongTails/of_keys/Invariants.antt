use Rattle.std.proofs.Common.{length, ◌-◌, ◌≤◌}
use Rattle.resb_blocks.specs.Inner.Listed.{ListsUpTo}
use Rattle.resb_blocks.proofs.tails.LongTails.of_keys.Given as goal

abbrev pub invariant-keys : goal.invariant-keys
invariant-keys l = (l.start ≤ length l.keys) × ListsUpTo l.keys l.tails.items l.start

abbrev pub decreases-keys : goal.decreases-keys
decreases-keys l = length l.keys - l.start
