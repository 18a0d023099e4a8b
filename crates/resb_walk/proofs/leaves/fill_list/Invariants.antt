use Rattle.std.proofs.Common.{◌≤◌}
use Rattle.resb_format.specs.Parts.{parts_in}
use Rattle.resb_walk.specs.Inner.Frames.{FillsList}
use Rattle.resb_walk.proofs.leaves.fill_list.Given as goal

abbrev pub invariant-members : goal.invariant-members
invariant-members g l = record {
  fills : FillsList g.M.Make.lists g.M.Make.tables (parts_in l.fn.file) l.fn.rest l.fn.made
      l.fn.walk l.rest l.made l.walk;
  falls : l.walk ≤ l.fn.walk;
}

abbrev pub decreases-members : goal.decreases-members
decreases-members g l = l.walk
