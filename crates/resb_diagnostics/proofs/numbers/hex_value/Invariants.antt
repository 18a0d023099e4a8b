-- The value so far.
use Rattle.std.proofs.Common.{◌≡◌, take, min}
use Rattle.resb_diagnostics.specs.IcuWarnings.{hex_number}
use Rattle.resb_diagnostics.proofs.numbers.hex_value.Given as goal

abbrev pub invariant-loop-byte : goal.invariant-loop-byte
invariant-loop-byte l = l.value ≡ min (hex_number (take l.byte-index l.digits)) 4294967296
