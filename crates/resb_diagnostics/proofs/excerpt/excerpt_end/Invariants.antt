-- No line ends among the bytes that were passed, which are at most 63, and no character begins
-- among those behind the first 60.
use Rattle.std.proofs.Common.{◌≤◌, ◌+◌, ◌-◌, length}
use Rattle.resb_diagnostics.specs.Excerpt.{IsOneLine, BeginsNone}
use Rattle.resb_diagnostics.proofs.excerpt.excerpt_end.Given as goal

abbrev pub invariant-on : goal.invariant-on
invariant-on l =
    (l.place ≤ l.to) × (l.to ≤ length l.text) × (l.to ≤ l.place + 63)
    × IsOneLine l.text l.place l.to × BeginsNone l.text (l.place + 60) l.to

abbrev pub decreases-on : goal.decreases-on
decreases-on l = length l.text - l.to
