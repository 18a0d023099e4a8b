use Rattle.std.proofs.Common.{◌+◌}
use Rattle.resb_tree.specs.Tree.{entries_count}
use Rattle.resb_tree.specs.View.{entries_view}
use Rattle.resb_diff.specs.Inner.Walking.{entries_to_come}
use Rattle.resb_diff.proofs.MemberLemmas.{EntriesSoFar}
use Rattle.resb_diff.proofs.members.entries.Given as goal

abbrev pub invariant-loop-key : goal.invariant-loop-key
invariant-loop-key l =
    EntriesSoFar l.fn.paths l.fn.from (entries_view l.fn.old.entries)
    (entries_view l.fn.new.entries) l.paths l.found.items
    (entries_to_come l.one (entries_view l.olds)) (entries_to_come l.other (entries_view l.news))

abbrev pub decreases-loop-key : goal.decreases-loop-key
decreases-loop-key l =
    entries_count (entries_to_come l.one (entries_view l.olds))
    + entries_count (entries_to_come l.other (entries_view l.news))
