use Rattle.std.proofs.Common.{length}
use Rattle.std.specs.String.{string_bytes}
use Rattle.resb_format.specs.Bytes.{units_of}
use Rattle.resb_walk.specs.Fronts.{PutsFront}
use Rattle.resb_walk.specs.Inner.Members.{text_of_bytes}
use Rattle.resb_walk.proofs.units.push_text_of_units.Given as goal

abbrev pub invariant-chars : goal.invariant-chars
invariant-chars l =
    PutsFront (string_bytes l.fn.text) (string_bytes l.text) (text_of_bytes l.fn.bytes)
    (text_of_bytes l.rest)

abbrev pub decreases-chars : goal.decreases-chars
decreases-chars l = length (units_of l.rest)
