use Rattle.std.proofs.Common.{ℕ, ◌≡◌, ◌<◌, ◌≤◌, ◌-◌, length, take, get_or}
use Rattle.resb_format.specs.Bytes.{units_of}
use Rattle.resb_walk.proofs.units.push_ascii.Given as goal

abbrev pub invariant-units : goal.invariant-units
invariant-units l = record {
  within : l.count ≤ l.most;
  long : length l.run ≡ 64;
  front : take l.count l.run ≡ take l.count (units_of l.fn.bytes);
  ascii : (k : ℕ) → k < l.count → get_or (units_of l.fn.bytes) k 0 < 128;
}

abbrev pub decreases-units : goal.decreases-units
decreases-units l = l.most - l.count
