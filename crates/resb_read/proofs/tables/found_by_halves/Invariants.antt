-- The name stands among the entries that are left, if anywhere.
use Rattle.std.proofs.Common.{◌≤◌, ◌-◌, length}
use Rattle.resb_walk.specs.Inner.Members.{keyed_members}
use Rattle.resb_read.specs.Inner.Elements.{entry_places}
use Rattle.resb_read.proofs.Halving.{IsLeft}
use Rattle.resb_read.proofs.tables.found_by_halves.Given as goal

abbrev pub invariant-halves : goal.invariant-halves
invariant-halves l =
    (l.low ≤ l.high) × (l.high ≤ length (keyed_members l.entries))
    × IsLeft l.name (entry_places l.file l.entries) l.low l.high

abbrev pub decreases-halves : goal.decreases-halves
decreases-halves l = l.high - l.low
