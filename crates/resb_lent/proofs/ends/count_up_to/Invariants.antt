use Rattle.std.proofs.Common.{◌≡◌, ◌+◌, ◌-◌, ◌<◌, ◌≤◌, ℕ, length, reverse}
use Rattle.std.specs.Prelude.{slice_index_or}
use Rattle.std.specs.declared.cmp.Ordering.TheVariants.{Greater}
use Rattle.resb_pool.specs.Order.{end_last_cmp}
use Rattle.resb_lent.specs.declared.ends.LentRun.{LentRun}
use Rattle.resb_lent.proofs.ends.count_up_to.Given as goal

abbrev pub invariant-halves : goal.invariant-halves
invariant-halves l = record {
  ordered : l.low ≤ l.high;
  within : l.high ≤ length l.runs;
  before : (k : ℕ) (d : LentRun) → l.low ≡ k + 1
      → end_last_cmp (reverse (slice_index_or l.runs k d).bytes.now) (reverse l.key) ≡ Greater
      → ⊥;
  behind : (d : LentRun) → l.high < length l.runs
      → end_last_cmp (reverse (slice_index_or l.runs l.high d).bytes.now) (reverse l.key)
      ≡ Greater;
}

abbrev pub decreases-halves : goal.decreases-halves
decreases-halves l = l.high - l.low
