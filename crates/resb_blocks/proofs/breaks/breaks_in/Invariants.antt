use Rattle.std.proofs.Common.{◌≡◌, ◌≤◌}
use Rattle.resb_format.specs.Bytes.{units_of}
use Rattle.resb_blocks.specs.Links.{break_count}
use Rattle.resb_blocks.proofs.breaks.breaks_in.Given as goal

abbrev pub invariant-units : goal.invariant-units
invariant-units l =
    (l.found ≡ break_count (units_of l.block) l.from l.number) × (l.found ≤ l.number)
