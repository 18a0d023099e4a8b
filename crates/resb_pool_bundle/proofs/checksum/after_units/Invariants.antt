use Rattle.std.proofs.Common.{◌≡◌, take}
use Rattle.std.specs.List.{fold}
use Rattle.resb_format.specs.Bytes.{units_of}
use Rattle.resb_pool_bundle.specs.Checksum.{unit_step}
use Rattle.resb_pool_bundle.proofs.checksum.after_units.Given as goal

abbrev pub invariant-units : goal.invariant-units
invariant-units l = l.crc ≡ fold unit_step l.initial.crc (take l.number (units_of l.block))
