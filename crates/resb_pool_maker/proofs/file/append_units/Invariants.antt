use Rattle.std.proofs.Common.{◌≡◌, ◌++◌, take}
use Rattle.resb_format.specs.Bytes.{units_as_bytes}
use Rattle.resb_pool_maker.proofs.file.append_units.Given as goal

abbrev pub invariant-loop-unit : goal.invariant-loop-unit
invariant-loop-unit l =
    l.block.items ≡ l.initial.block.items ++ units_as_bytes (take l.unit-index l.units)
