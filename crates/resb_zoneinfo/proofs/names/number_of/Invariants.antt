use Rattle.resb_zoneinfo.specs.Names.{NoneBefore}
use Rattle.resb_zoneinfo.proofs.names.number_of.Given as goal

-- the names so far are others
abbrev pub invariant-loop-number : goal.invariant-loop-number
invariant-loop-number l = NoneBefore l.names l.wanted l.number
