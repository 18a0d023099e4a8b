use Rattle.std.proofs.Common.{◌≡◌, ◌<◌, ℕ, get_or, length}
use Rattle.resb_pool.specs.Plan.{nows}
use Rattle.resb_lent.specs.Inner.Copies.{IsCopy}
use Rattle.resb_lent.proofs.copies.find_copies.Given as goal

abbrev pub invariant-loop-number : goal.invariant-loop-number
invariant-loop-number l = record {
  len : length l.copies.items ≡ l.number;
  each : (i : ℕ) → i < l.number → IsCopy (nows l.strings) i (get_or l.copies.items i 0);
}
