use Rattle.std.proofs.Common.{◌≡◌, ◌-◌, ◌≤◌, length, true}
use Rattle.resb_pool.specs.Plan.{at_text}
use Rattle.resb_lent.specs.LentKeys.{begins_key}
use Rattle.resb_lent.specs.Inner.Noted.{NotedUpTo}
use Rattle.resb_lent.proofs.keys.LentKeys.of.Given as goal

abbrev pub invariant-keys : goal.invariant-keys
invariant-keys l = record {
  within : l.start ≤ length l.keys;
  begins : begins_key l.keys l.start ≡ true;
  noted : NotedUpTo l.keys l.start (at_text l.places);
}

abbrev pub decreases-keys : goal.decreases-keys
decreases-keys l = length l.keys - l.start
