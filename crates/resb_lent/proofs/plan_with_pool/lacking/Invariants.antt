use Rattle.std.proofs.Common.{◌≡◌, ◌++◌, ◌<◌, ℕ, List, drop, length}
use Rattle.std.specs.List.{All}
use Rattle.resb_pool.specs.Plan.{nows}
use Rattle.resb_pool.specs.declared.packing.Packing.{Packing}
use Rattle.resb_lent.specs.PlanWithPool.{lacking}
use Rattle.resb_lent.specs.Inner.LentEndings.{AreStandingsBy, AreLentEndsBy}
use Rattle.resb_lent.proofs.plan_with_pool.lacking.Given as goal

abbrev pub invariant-loop-at : goal.invariant-loop-at
invariant-loop-at l = record {
  texts : nows l.own.texts.items ++ lacking (nows (drop l.at l.texts)) (drop l.at l.found)
      ≡ lacking (nows l.texts) l.found;
  within : All (λ i. i < length l.own.texts.items) l.own.ended.items;
  ends : (way : Packing) (block : List ℕ) → AreStandingsBy way block (nows l.texts) l.standings
      → AreLentEndsBy way block (nows l.own.texts.items) l.own.ended.items;
}
