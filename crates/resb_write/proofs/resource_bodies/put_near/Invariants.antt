use Rattle.std.proofs.Common.{◌≡◌, ◌++◌, take}
use Rattle.resb_layout.specs.Laid.{nears_by}
use Rattle.resb_write.specs.Inner.Lending.{lent_of}
use Rattle.resb_write.proofs.resource_bodies.put_near.Given as goal

abbrev pub invariant-loop-position : goal.invariant-loop-position
invariant-loop-position l = l.units.items ≡ l.fn.units.items ++ nears_by (lent_of l.lent)
    (take l.position-index l.positions)
