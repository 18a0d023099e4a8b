use Rattle.std.proofs.Common.{◌≡◌, filter, take, List, ℕ, Option}
use Rattle.resb_pool.specs.Plan.{nows}
use Rattle.resb_write.specs.Inner.KeyEnds.{AreKeyEnds, is_own}
use Rattle.resb_write.specs.Inner.Numbered.{AreNumbered}
use Rattle.resb_write.proofs.end_keys.own_keys.Given as goal

abbrev pub invariant-loop-at : goal.invariant-loop-at
invariant-loop-at l = (js T : List (List ℕ)) (place : List ℕ → Option ℕ)
    → AreKeyEnds place js T l.ends
    → AreNumbered T l.used.numbers.items (nows l.used.keys.items) → nows l.own.items
    ≡ filter (is_own place js) (nows (take l.at l.used.keys.items))
