use Rattle.resb_examples.specs.Offsets.{BeginLater}
use Rattle.resb_examples.proofs.zones.zone.Zone.offset_at.Given as goal

-- the pairs that were passed begin later
abbrev pub invariant-loop-number : goal.invariant-loop-number
invariant-loop-number l = BeginLater l.self l.moment l.number
