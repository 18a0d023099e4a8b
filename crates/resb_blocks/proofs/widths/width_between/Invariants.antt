use Rattle.std.proofs.Common.{◌≡◌, ◌*◌, ◌≤◌, take, drop}
use Rattle.resb_format.specs.Bytes.{units_of}
use Rattle.resb_blocks.specs.Wide.{text_width}
use Rattle.resb_blocks.proofs.widths.width_between.Given as goal

abbrev pub invariant-units : goal.invariant-units
invariant-units l =
    (l.sum ≡ text_width (take l.number (drop l.from (units_of l.block)))) × (l.sum ≤ 3 * l.number)
