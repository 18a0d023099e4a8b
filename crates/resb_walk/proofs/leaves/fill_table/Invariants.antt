use Rattle.std.proofs.Common.{◌≤◌}
use Rattle.resb_format.specs.Parts.{parts_in}
use Rattle.resb_walk.specs.Inner.Frames.{FillsTable}
use Rattle.resb_walk.proofs.leaves.fill_table.Given as goal

abbrev pub invariant-entries : goal.invariant-entries
invariant-entries g l = record {
  fills : FillsTable g.M.Make.lists g.M.Make.tables (parts_in l.fn.file) l.fn.rest l.fn.made
      l.fn.walk l.rest l.made l.walk;
  falls : l.walk ≤ l.fn.walk;
}

abbrev pub decreases-entries : goal.decreases-entries
decreases-entries g l = l.walk
