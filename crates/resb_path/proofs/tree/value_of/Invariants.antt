use Rattle.std.proofs.Common.{◌≡◌}
use Rattle.resb_tree.specs.View.{entries_view}
use Rattle.resb_tree.specs.Maps.{get}
use Rattle.resb_path.proofs.tree.value_of.Given as goal

abbrev pub invariant-loop-key : goal.invariant-loop-key
invariant-loop-key l =
    get l.name (entries_view l.key-iterator)
    ≡ get l.name (entries_view l.entries.entries)
