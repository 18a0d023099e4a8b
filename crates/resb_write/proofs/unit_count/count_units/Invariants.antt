use Rattle.std.proofs.Common.{◌≡◌, ◌+◌, ◌≤◌, List, map, take, drop}
use Rattle.std.specs.List.{sum_by}
use Rattle.resb_tree.specs.Tree.{Tree}
use Rattle.resb_tree.specs.LayingOrder.{laying_order}
use Rattle.resb_layout.specs.Laid.{Given}
use Rattle.resb_write.specs.Inner.Lending.{lent_of}
use Rattle.resb_write.specs.Inner.Room.{most_units, GivesInTurn}
use Rattle.resb_write.specs.Inner.Counted.{Pending, is_near, own_units}
use Rattle.resb_write.proofs.unit_count.count_units.Given as goal

abbrev pub invariant-loop-at : goal.invariant-loop-at
invariant-loop-at g l = (t : Tree) → g.N.Nodes.fit l.order (laying_order t)
    → (given : Given) → GivesInTurn given l.sites.positions.now l.sites.offsets.now (laying_order t)
    → (st : List Tree)
    × Pending st (drop l.at (laying_order t))
    × GivesInTurn given l.coming.positions.now l.coming.offsets.now (drop l.at (laying_order t))
    × (l.marks.items ≡ map (is_near (lent_of l.sites.lent) given) st)
    × (l.count ≡ l.pool + sum_by (own_units (lent_of l.sites.lent) given) (take l.at
    (laying_order t)))
    × (l.count + sum_by most_units (drop l.at (laying_order t))
    ≤ l.pool + sum_by most_units (laying_order t))
