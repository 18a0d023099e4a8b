-- The value so far.
use Rattle.std.proofs.Common.{◌≡◌, take, min}
use Rattle.resb_diagnostics.specs.Warnings.{number_of}
use Rattle.resb_diagnostics.proofs.numbers.value_of.Given as goal

abbrev pub invariant-loop-byte : goal.invariant-loop-byte
invariant-loop-byte l = l.value ≡ min (number_of (take l.byte-index l.digits)) 4294967296
