-- What was gone through is the front of the entries, and the access has not failed.
use Rattle.std.proofs.Common.{◌≡◌, None, length}
use Rattle.resb_read.specs.Sequences.{CountsEach, CountsEntry}
use Rattle.resb_blame.proofs.Gone.{Gone}
use Rattle.resb_blame.proofs.maps.blame_entries.Given as goal

abbrev pub invariant-entries : goal.invariant-entries
invariant-entries g l =
    (l.access.failed ≡ None)
    × Gone (CountsEach (CountsEntry g.K.Deserialize.counts g.T.Deserialize.counts)) l.fn.access.rest
    l.access.rest l.fn.walk l.walk

abbrev pub decreases-entries : goal.decreases-entries
decreases-entries g l = length l.access.rest
