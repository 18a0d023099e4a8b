use Rattle.resb_zoneinfo.specs.Offsets.{ComeLater}
use Rattle.resb_zoneinfo.proofs.zone.Zone.past_offset_at.Given as goal

-- the transitions that were passed come later
abbrev pub invariant-loop-number : goal.invariant-loop-number
invariant-loop-number l = ComeLater l.self l.moment l.number
