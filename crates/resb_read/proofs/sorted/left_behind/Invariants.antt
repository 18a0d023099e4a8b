-- What is left has still to pay for the keys that are left.
use Rattle.std.proofs.Common.{◌≡◌, ◌+◌, length}
use Rattle.resb_walk.specs.Inner.Members.{keyed_members}
use Rattle.resb_read.specs.Inner.Elements.{entry_places}
use Rattle.resb_read.specs.Tables.{view_entries, price_of}
use Rattle.resb_read.proofs.sorted.left_behind.Given as goal

abbrev pub invariant-entries : goal.invariant-entries
invariant-entries l =
    l.room + price_of (view_entries l.table) ≡ l.left + price_of (entry_places l.table.file l.rest)

abbrev pub decreases-entries : goal.decreases-entries
decreases-entries l = length (keyed_members l.rest)
