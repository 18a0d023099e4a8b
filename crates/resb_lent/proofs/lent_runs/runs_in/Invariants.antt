use Rattle.std.proofs.Common.{◌≡◌, ◌-◌, ◌≤◌, length, true}
use Rattle.resb_lent.specs.LentKeys.{begins_key}
use Rattle.resb_lent.specs.Inner.Runs.{ListsRuns}
use Rattle.resb_lent.proofs.lent_runs.runs_in.Given as goal

abbrev pub invariant-keys : goal.invariant-keys
invariant-keys l = record {
  within : l.start ≤ length l.keys;
  begins : begins_key l.keys l.start ≡ true;
  listed : ListsRuns l.keys l.start l.runs.items;
}

abbrev pub decreases-keys : goal.decreases-keys
decreases-keys l = length l.keys - l.start
