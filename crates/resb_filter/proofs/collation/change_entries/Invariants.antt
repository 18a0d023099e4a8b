-- The first entries are changed so far.
use Rattle.std.proofs.Common.{take}
use Rattle.std.specs.Prelude.{Some}
use Rattle.resb_filter.specs.Inner.Left.{LeftSoFar}
use Rattle.resb_filter.proofs.collation.change_entries.Given as goal

abbrev pub invariant-loop-entry : goal.invariant-loop-entry
invariant-loop-entry g l =
    LeftSoFar l.fn.draft l.draft (λ k t. Some (g.C.EachEntry.changes l.change k t))
    (take l.entry-index l.entry-items) l.changed.items
