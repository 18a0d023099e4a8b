use Rattle.std.proofs.Common.{◌≡◌, ◌<◌, ℕ, length, take, get_or}
use Rattle.resb_pool.specs.Inner.Placing.{lying_in}
use Rattle.resb_pool.proofs.containers.sum_totals.Given as goal

abbrev pub invariant-loop-index : goal.invariant-loop-index
invariant-loop-index l = record {
  len : length l.sums.items ≡ length l.containers;
  sums : (q : ℕ) → q < length l.containers
      → get_or l.sums.items q 0 ≡ lying_in (take l.index l.containers) (take l.index l.measures) q;
}
