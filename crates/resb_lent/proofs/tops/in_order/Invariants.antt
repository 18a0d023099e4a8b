use Rattle.std.proofs.Common.{◌≡◌, ◌<◌, ℕ, length, get_or}
use Rattle.resb_lent.proofs.tops.in_order.Given as goal

abbrev pub invariant-loop-number : goal.invariant-loop-number
invariant-loop-number l = record {
  many : length l.numbers.items ≡ l.number;
  each : (n : ℕ) → n < l.number → get_or l.numbers.items n 0 ≡ n;
}
