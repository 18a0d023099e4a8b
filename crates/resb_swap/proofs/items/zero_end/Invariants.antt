use Rattle.std.proofs.Common.{◌-◌, ◌≢◌, ℕ, ◌≤◌, ◌<◌}
use Rattle.resb_swap.specs.Numbers.{byte_in}
use Rattle.resb_swap.specs.Inner.Seen.{seen}
use Rattle.resb_swap.proofs.items.zero_end.Given as goal

-- no zero byte stands from this place on
abbrev pub invariant-loop-end : goal.invariant-loop-end
invariant-loop-end l = record {
  low : l.from ≤ l.end;
  high : l.end ≤ l.to;
  none : (z : ℕ) → l.end ≤ z → z < l.to → byte_in (seen l.body) z ≢ 0;
}

-- the bytes that are left
abbrev pub decreases-loop-end : goal.decreases-loop-end
decreases-loop-end l = l.end - l.from
