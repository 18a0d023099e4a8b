-- No entry behind those that are left has the name.
use Rattle.std.proofs.Common.{◌≡◌, ◌≤◌, ◌/◌, None, length, drop}
use Rattle.resb_read.specs.Inner.Elements.{near_entries}
use Rattle.resb_read.specs.Tables.{last_named}
use Rattle.resb_read.proofs.tables.last_near.Given as goal

abbrev pub invariant-entries : goal.invariant-entries
invariant-entries l =
    (l.left ≤ length l.positions / 2) × (l.left ≤ length l.words / 4)
    × (last_named l.name (drop l.left (near_entries l.file l.positions l.words)) ≡ None)

abbrev pub decreases-entries : goal.decreases-entries
decreases-entries l = l.left
