use Rattle.std.proofs.Common.{◌-◌, ◌≡◌, ◌+◌, ◌<◌, ◌≤◌, ℕ, length}
use Rattle.std.specs.declared.cmp.Ordering.TheVariants.{Greater}
use Rattle.resb_pool.specs.Order.{suffix_cmp}
use Rattle.resb_pool.specs.declared.packing.Packing.TheVariants.{Compact}
use Rattle.resb_lent.specs.Inner.Tops.{text_of_number}
use Rattle.resb_lent.proofs.tops.count_up_to.Given as goal

abbrev pub invariant-halves : goal.invariant-halves
invariant-halves l = record {
  ordered : l.low ≤ l.high;
  within : l.high ≤ length l.tops;
  before : (k : ℕ) → l.low ≡ k + 1
      → suffix_cmp Compact (text_of_number l.records l.tops k) l.text ≡ Greater → ⊥;
  behind : l.high < length l.tops
      → suffix_cmp Compact (text_of_number l.records l.tops l.high) l.text ≡ Greater;
}

abbrev pub decreases-halves : goal.decreases-halves
decreases-halves l = l.high - l.low
