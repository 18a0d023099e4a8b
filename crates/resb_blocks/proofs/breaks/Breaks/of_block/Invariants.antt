use Rattle.std.proofs.Common.{◌≡◌, ◌≤◌, ◌<◌, ◌*◌, ◌-◌, ◌/◌, length}
use Rattle.resb_format.specs.Bytes.{units_of}
use Rattle.resb_blocks.specs.Links.{break_count, AreCounted}
use Rattle.resb_blocks.proofs.breaks.Breaks.of_block.Given as goal

abbrev pub invariant-steps : goal.invariant-steps
invariant-steps l =
    let us = units_of l.block in
    (l.number ≡ 64 * length l.before.items) × (l.total ≤ l.number)
    × (l.number < length l.block / 2 → l.total ≡ break_count us 0 l.number)
    × AreCounted us l.before.items

abbrev pub decreases-steps : goal.decreases-steps
decreases-steps l = length l.block / 2 - l.number
