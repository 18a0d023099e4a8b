-- No type is spelt so far behind a byte behind which it may stand.
use Rattle.std.proofs.Common.{◌≡◌, ◌+◌, ◌<◌, ℕ, None, true, slice_index}
use Rattle.resb_icu_files.specs.Ways.{may_precede, way_at}
use Rattle.resb_icu_files.proofs.way.may_take_files.Given as goal

abbrev pub invariant-loop-at : goal.invariant-loop-at
invariant-loop-at l = record {
  none : (k : ℕ) → k < l.at → may_precede (slice_index l.bytes k) ≡ true
      → way_at l.bytes (k + 1) ≡ None;
}
