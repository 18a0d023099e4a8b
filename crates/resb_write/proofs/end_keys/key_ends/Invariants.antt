use Rattle.std.proofs.Common.{◌≡◌, length, take, List, ℕ}
use Rattle.resb_pool.specs.Plan.{nows}
use Rattle.resb_layout.specs.KeyEnds.{AreByEnd}
use Rattle.resb_write.specs.Inner.KeyEnds.{AreKeyEnds, place_by}
use Rattle.resb_write.proofs.end_keys.key_ends.Given as goal

abbrev pub invariant-loop-name : goal.invariant-loop-name
invariant-loop-name l = record {
  len : length l.ends.items ≡ l.name-index;
  ends : (js : List (List ℕ)) → AreByEnd js l.sorted
      → AreKeyEnds (place_by l.lent js) js (nows (take l.name-index l.names)) l.ends.items;
}
