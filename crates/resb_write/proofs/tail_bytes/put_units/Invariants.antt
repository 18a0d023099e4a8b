use Rattle.std.proofs.Common.{◌≡◌, ◌++◌, take}
use Rattle.resb_format.specs.Bytes.{units_as_bytes}
use Rattle.resb_write.proofs.tail_bytes.put_units.Given as goal

abbrev pub invariant-loop-unit : goal.invariant-loop-unit
invariant-loop-unit l = l.tail.items ≡ l.fn.tail.items ++ units_as_bytes
    (take l.unit-index l.units)
