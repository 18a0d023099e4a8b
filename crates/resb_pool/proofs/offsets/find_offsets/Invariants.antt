use Rattle.std.proofs.Common.{◌≡◌, ◌<◌, ℕ, length, get_or}
use Rattle.resb_pool.specs.Inner.Placing.{offset_by}
use Rattle.resb_pool.specs.declared.measure.Measure.{Measure}
use Rattle.resb_pool.proofs.offsets.find_offsets.Given as goal

abbrev pub invariant-loop-index : goal.invariant-loop-index
invariant-loop-index l = record {
  len : length l.offsets.items ≡ l.index;
  each : (i : ℕ) (d : Measure) → i < l.index
      → get_or l.offsets.items i 0
      ≡ offset_by l.ends (get_or l.containers i 0) (get_or l.measures i d);
}
