use Rattle.std.proofs.Common.{◌≡◌, take, true, nat_le}
use Rattle.std.specs.List.{list_all}
use Rattle.resb_layout.specs.Laid.{near_by}
use Rattle.resb_write.specs.Inner.Lending.{lent_of}
use Rattle.resb_write.proofs.resource_bodies.are_near_positions.Given as goal

abbrev pub invariant-loop-position : goal.invariant-loop-position
invariant-loop-position l = list_all (λ p. nat_le (near_by (lent_of l.lent) p) 65535)
    (take l.position-index l.positions) ≡
    true
