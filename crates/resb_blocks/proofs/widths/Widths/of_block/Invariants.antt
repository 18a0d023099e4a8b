use Rattle.std.proofs.Common.{◌≡◌, ◌+◌, ◌≤◌, ◌*◌, ◌-◌, length, take}
use Rattle.resb_format.specs.Bytes.{units_of}
use Rattle.resb_blocks.specs.Wide.{text_width, AreSummed}
use Rattle.resb_blocks.proofs.widths.Widths.of_block.Given as goal

abbrev pub invariant-steps : goal.invariant-steps
invariant-steps l =
    let us = units_of l.block in
    (l.number + 64 ≡ 64 * length l.before.items) × (l.number ≤ l.count)
    × (l.total ≡ text_width (take l.number us)) × (l.total ≤ 3 * l.number)
    × AreSummed us l.before.items

abbrev pub decreases-steps : goal.decreases-steps
decreases-steps l = l.count - l.number
