use Rattle.std.proofs.Common.{◌+◌, ◌*◌, length}
use Rattle.resb_format.specs.Parts.{parts_in}
use Rattle.resb_walk.proofs.Chain.{Round}
use Rattle.resb_walk.proofs.read.read_word.Given as goal

abbrev pub invariant-rounds : goal.invariant-rounds
invariant-rounds g l =
    Round g.M.Make.lists g.M.Make.tables
    (parts_in l.fn.file) l.fn.word l.fn.walk l.frames.items l.frame l.walk

-- A round pays for a member, or closes a frame.
abbrev pub decreases-rounds : goal.decreases-rounds
decreases-rounds g l = 2 * l.walk + length l.frames.items
