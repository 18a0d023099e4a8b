use Rattle.std.proofs.Common.{◌≡◌, take}
use Rattle.resb_format.specs.Bytes.{units_of}
use Rattle.resb_lent.proofs.records.units_in.Given as goal

abbrev pub invariant-loop-number : goal.invariant-loop-number
invariant-loop-number l = l.units.items ≡ take l.number (units_of l.block)
