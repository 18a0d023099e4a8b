use Rattle.std.proofs.Common.{◌≡◌, ◌++◌, take}
use Rattle.resb_format.specs.Bytes.{units_as_bytes}
use Rattle.resb_layout.specs.Laid.{nears_by}
use Rattle.resb_write.specs.Inner.Lending.{lent_of}
use Rattle.resb_write.proofs.tail_bytes.put_halves.Given as goal

abbrev pub invariant-loop-position : goal.invariant-loop-position
invariant-loop-position l = l.tail.items ≡ l.fn.tail.items ++ units_as_bytes
    (nears_by (lent_of l.lent) (take l.position-index l.positions))
