use Rattle.std.proofs.Common.{◌≡◌, ◌+◌, ◌*◌, length}
use Rattle.resb_format.specs.Parts.{parts_in}
use Rattle.resb_walk.specs.Inner.Weighing.{Weighing}
use Rattle.resb_walk.proofs.weigh.weigh_word.Given as goal

abbrev pub invariant-rounds : goal.invariant-rounds
invariant-rounds l =
    (l.scale.file ≡ l.fn.file)
    × Weighing (parts_in l.fn.file) l.fn.word l.outer.items l.inner l.sums l.left

-- A round takes a resource, or goes back to a collection that waits.
abbrev pub decreases-rounds : goal.decreases-rounds
decreases-rounds l = 2 * l.left + length l.outer.items
