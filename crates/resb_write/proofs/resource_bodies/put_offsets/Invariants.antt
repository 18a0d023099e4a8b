use Rattle.std.proofs.Common.{◌≡◌, ◌++◌, take}
use Rattle.resb_layout.specs.Laid.{offsets_by}
use Rattle.resb_write.specs.Inner.Lending.{lent_of}
use Rattle.resb_write.proofs.resource_bodies.put_offsets.Given as goal

abbrev pub invariant-loop-word : goal.invariant-loop-word
invariant-loop-word l = l.units.items ≡ l.fn.units.items ++ offsets_by (lent_of l.lent)
    (take l.word-index l.words)
