use Rattle.std.proofs.Common.{◌≡◌, ◌<◌, ℕ, length, take, get_or, Contains}
use Rattle.resb_pool.specs.Inner.Placing.{lying_in}
use Rattle.resb_pool.specs.declared.measure.Measure.{Measure}
use Rattle.resb_pool.proofs.containers.find_sums.Given as goal

abbrev pub invariant-loop-index : goal.invariant-loop-index
invariant-loop-index l = record {
  len : length l.sums.items ≡ length l.containers.of.items;
  each : (q : ℕ) → q < length l.containers.of.items → (Contains l.containers.hidden.items q → ⊥)
      → get_or l.sums.items q 0 ≡ lying_in l.containers.of.items l.measures q;
  hidden : (q : ℕ) (d : Measure) → q < length l.containers.of.items
      → Contains (take l.index-index l.containers.hidden.items) q
      → get_or l.sums.items q 0 ≡ (get_or l.measures q d).size;
}
