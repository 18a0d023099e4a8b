use Rattle.std.proofs.Common.{◌≡◌, length}
use Rattle.std.specs.Char.Utf16.{has_unpaired_surrogate}
use Rattle.resb_format.specs.Bytes.{units_of}
use Rattle.resb_walk.proofs.units.is_well_formed.Given as goal

abbrev pub invariant-units : goal.invariant-units
invariant-units l =
    has_unpaired_surrogate (units_of l.fn.bytes) ≡ has_unpaired_surrogate (units_of l.rest)

abbrev pub decreases-units : goal.decreases-units
decreases-units l = length (units_of l.rest)
