use Rattle.std.proofs.Common.{◌≡◌, map, take, List, ℕ, Option}
use Rattle.resb_pool.specs.Plan.{nows}
use Rattle.resb_write.specs.Inner.KeyEnds.{AreKeyEnds, told_at_end}
use Rattle.resb_write.proofs.end_keys.end_places.Given as goal

abbrev pub invariant-loop-at : goal.invariant-loop-at
invariant-loop-at l = (js : List (List ℕ)) (place : List ℕ → Option ℕ)
    → AreKeyEnds place js (nows l.names) l.ends
    → l.places.items ≡ map (told_at_end l.more place js (nows l.own)) (nows (take l.at l.names))
