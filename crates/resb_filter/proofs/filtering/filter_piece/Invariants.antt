-- The tables around the open one wait for what is left of each other.
use Rattle.std.proofs.Common.{◌+◌}
use Rattle.resb_tree.specs.Tree.{Tree}
use Rattle.resb_draft.specs.Drafts.{tree_at}
use Rattle.resb_filter.specs.Filtered.{filtered}
use Rattle.resb_filter.specs.Inner.Open.{IsOpen, weight}
use Rattle.resb_filter.specs.View.{rules_left}
use Rattle.resb_filter.proofs.OpenLemmas.{Around, weights}
use Rattle.resb_filter.proofs.filtering.filter_piece.Given as goal

abbrev pub invariant-tables : goal.invariant-tables
invariant-tables l =
    (w : Tree) × Around l.draft (filtered (rules_left l.fn.rules.items)
    (tree_at l.fn.draft l.number)) w l.around.items
    × IsOpen l.draft w l.table

abbrev pub decreases-tables : goal.decreases-tables
decreases-tables l = weights l.draft l.around.items + weight l.draft l.table
