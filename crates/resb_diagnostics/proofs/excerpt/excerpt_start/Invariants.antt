-- No line ends among the bytes that were passed, which are at most 60.
use Rattle.std.proofs.Common.{◌≤◌, ◌+◌}
use Rattle.resb_diagnostics.specs.Excerpt.{IsOneLine}
use Rattle.resb_diagnostics.proofs.excerpt.excerpt_start.Given as goal

abbrev pub invariant-back : goal.invariant-back
invariant-back l = (l.from ≤ l.place) × (l.place ≤ l.from + 60) × IsOneLine l.text l.from l.place

abbrev pub decreases-back : goal.decreases-back
decreases-back l = l.from
