-- What has been read is the front of the members, and the access has not failed.
use Rattle.std.proofs.Common.{◌≡◌, None, length}
use Rattle.resb_read.specs.Inner.Front.{Front}
use Rattle.resb_read.proofs.lists.read_members.Given as goal

abbrev pub invariant-members : goal.invariant-members
invariant-members g l =
    (l.seq.failed ≡ None)
    × Front g.T.Deserialize.reads l.fn.seq.rest l.seq.rest l.values.items l.fn.walk l.walk

abbrev pub decreases-members : goal.decreases-members
decreases-members g l = length l.seq.rest
