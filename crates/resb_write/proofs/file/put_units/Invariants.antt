use Rattle.std.proofs.Common.{◌≡◌, ◌*◌, take}
use Rattle.resb_format.specs.Bytes.{units_as_bytes}
use Rattle.resb_write.proofs.file.put_units.Given as goal

abbrev pub invariant-loop-number : goal.invariant-loop-number
invariant-loop-number l =
    take (2 * l.number) l.place ≡ units_as_bytes (take l.number l.units)
