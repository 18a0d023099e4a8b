use Rattle.std.proofs.Common.{◌≡◌}
use Rattle.std.specs.Fn.{iterate}
use Rattle.resb_pool_bundle.specs.Checksum.{bit_step}
use Rattle.resb_pool_bundle.proofs.checksum.after_byte.Given as goal

abbrev pub invariant-bits : goal.invariant-bits
invariant-bits l = l.crc ≡ iterate bit_step l._count l.initial.crc
