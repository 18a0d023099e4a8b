use Rattle.std.proofs.Common.{◌≡◌, ◌+◌, ◌-◌, ◌<◌, ◌≤◌, ℕ, List, Bor, length, true, false}
use Rattle.std.specs.Prelude.{slice_index_or}
use Rattle.resb_layout.specs.KeyEnds.{is_up_to}
use Rattle.resb_layout.proofs.key_ends.count_up_to.Given as goal

abbrev pub invariant-halves : goal.invariant-halves
invariant-halves l = record {
  ordered : l.low ≤ l.high;
  within : l.high ≤ length l.sorted;
  before : (k : ℕ) (d : Bor (List ℕ)) → l.low ≡ k + 1
      → is_up_to l.key (slice_index_or l.sorted k d).now ≡ true;
  behind : (d : Bor (List ℕ)) → l.high < length l.sorted
      → is_up_to l.key (slice_index_or l.sorted l.high d).now ≡ false;
}

abbrev pub decreases-halves : goal.decreases-halves
decreases-halves l = l.high - l.low
