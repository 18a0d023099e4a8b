use Rattle.std.proofs.Common.{◌≡◌, None, length}
use Rattle.resb_examples.specs.Inner.Fields.{FieldsFront}
use Rattle.resb_examples.proofs.zones.fields.read_fields.Given as goal

-- the front of the entries has been read, and the access has not failed
abbrev pub invariant-entries : goal.invariant-entries
invariant-entries l =
    (l.entries.failed ≡ None)
    × FieldsFront l.fn.entries.rest l.entries.rest l.fields l.fn.walk l.walk

abbrev pub decreases-entries : goal.decreases-entries
decreases-entries l = length l.entries.rest
