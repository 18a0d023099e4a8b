use Rattle.std.proofs.Common.{ℕ, ◌-◌, ◌<◌, ◌≤◌, length}
use Rattle.resb_blocks.specs.Inner.Listed.{start_of}
use Rattle.resb_blocks.proofs.tails.LongTails.near.Given as goal

abbrev pub invariant-halves : goal.invariant-halves
invariant-halves l =
    let ts = l.self.tails.items in
    (l.low ≤ l.high) × (l.high ≤ length ts) × ((j : ℕ) → j < l.low → start_of ts j ≤ l.at)
    × ((j : ℕ) → l.high ≤ j → j < length ts → l.at < start_of ts j)

abbrev pub decreases-halves : goal.decreases-halves
decreases-halves l = l.high - l.low
