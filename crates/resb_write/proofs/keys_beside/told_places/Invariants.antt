use Rattle.std.proofs.Common.{◌≡◌, map, take}
use Rattle.resb_pool.specs.Plan.{nows, at_text}
use Rattle.resb_lent.specs.Lending.{lent_place}
use Rattle.resb_write.specs.Inner.Beside.{told_beside}
use Rattle.resb_write.proofs.keys_beside.told_places.Given as goal

abbrev pub invariant-loop-key : goal.invariant-loop-key
invariant-loop-key l = l.places.items
    ≡ map (λ k. told_beside (lent_place l.lent k) (at_text l.last k))
    (nows (take l.key-index l.keys))
