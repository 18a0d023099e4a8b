use Rattle.std.proofs.Common.{◌≡◌, ◌+◌, ◌*◌, length}
use Rattle.resb_format.specs.Parts.{parts_in}
use Rattle.resb_walk.proofs.Paths.{Round}
use Rattle.resb_walk.proofs.count.count_word.Given as goal

abbrev pub invariant-rounds : goal.invariant-rounds
invariant-rounds l =
    (l.checker.file ≡ l.fn.file)
    × Round (parts_in l.fn.file) l.fn.word l.fn.walk l.outer.items l.inner l.walk

-- A round pays for a member, or goes back to a collection that waits.
abbrev pub decreases-rounds : goal.decreases-rounds
decreases-rounds l = 2 * l.walk + length l.outer.items
