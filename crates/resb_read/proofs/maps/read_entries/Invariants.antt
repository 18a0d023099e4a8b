-- What has been read is the front of the entries, and the access has not failed.
use Rattle.std.proofs.Common.{◌≡◌, None, length}
use Rattle.resb_read.specs.Inner.Front.{FrontEntries}
use Rattle.resb_read.proofs.maps.read_entries.Given as goal

abbrev pub invariant-entries : goal.invariant-entries
invariant-entries g l =
    (l.access.failed ≡ None)
    × FrontEntries g.K.Ord.cmp g.K.Deserialize.reads g.T.Deserialize.reads l.fn.access.rest
    l.access.rest l.map.entries l.fn.walk l.walk

abbrev pub decreases-entries : goal.decreases-entries
decreases-entries g l = length l.access.rest
