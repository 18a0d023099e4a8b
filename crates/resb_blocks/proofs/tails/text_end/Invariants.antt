use Rattle.std.proofs.Common.{ℕ, ◌-◌, ◌<◌, ◌≤◌, drop, length}
use Rattle.std.specs.Str.{IsUtf8}
use Rattle.resb_blocks.proofs.tails.text_end.Given as goal

abbrev pub invariant-faults : goal.invariant-faults
invariant-faults l =
    (l.before ≤ length l.bytes) × ((k : ℕ) → k < l.before → IsUtf8 (drop k l.bytes) → ⊥)

abbrev pub decreases-faults : goal.decreases-faults
decreases-faults l = length l.bytes - l.before
