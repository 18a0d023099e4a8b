use Rattle.std.proofs.Common.{◌≡◌, ◌+◌, ◌-◌, ◌<◌, ◌≤◌, ℕ, length}
use Rattle.std.specs.Prelude.{slice_index_or}
use Rattle.std.specs.String.{string_bytes}
use Rattle.std.specs.declared.cmp.Ordering.TheVariants.{Greater}
use Rattle.resb_pool.specs.Order.{suffix_cmp}
use Rattle.resb_pool.specs.declared.packing.Packing.TheVariants.{Plain}
use Rattle.resb_lent.specs.declared.lent_record.LentRecord.{LentRecord}
use Rattle.resb_lent.proofs.texts.count_up_to.Given as goal

abbrev pub invariant-halves : goal.invariant-halves
invariant-halves l = record {
  ordered : l.low ≤ l.high;
  within : l.high ≤ length l.records;
  before : (k : ℕ) (d : LentRecord) → l.low ≡ k + 1
      → suffix_cmp Plain (string_bytes (slice_index_or l.records k d).text) l.text ≡ Greater → ⊥;
  behind : (d : LentRecord) → l.high < length l.records
      → suffix_cmp Plain (string_bytes (slice_index_or l.records l.high d).text) l.text ≡ Greater;
}

abbrev pub decreases-halves : goal.decreases-halves
decreases-halves l = l.high - l.low
