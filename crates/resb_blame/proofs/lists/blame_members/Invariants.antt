-- What was gone through is the front of the members, and the access has not failed.
use Rattle.std.proofs.Common.{◌≡◌, None, length}
use Rattle.resb_read.specs.Sequences.{CountsEach}
use Rattle.resb_blame.proofs.Gone.{Gone}
use Rattle.resb_blame.proofs.lists.blame_members.Given as goal

abbrev pub invariant-members : goal.invariant-members
invariant-members g l =
    (l.seq.failed ≡ None)
    × Gone (CountsEach g.T.Deserialize.counts) l.fn.seq.rest l.seq.rest l.fn.walk l.walk
    × (l.count ≡ length l.fn.seq.rest)

abbrev pub decreases-members : goal.decreases-members
decreases-members g l = length l.seq.rest
