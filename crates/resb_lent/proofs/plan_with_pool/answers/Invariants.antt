use Rattle.std.proofs.Common.{ℕ, List, take}
use Rattle.std.specs.List.{All}
use Rattle.std.specs.Str.{IsUtf8}
use Rattle.resb_pool.specs.Plan.{nows}
use Rattle.resb_lent.specs.Lending.{LendsTexts}
use Rattle.resb_pool.specs.declared.packing.Packing.TheVariants.{Plain}
use Rattle.resb_lent.specs.PlanWithPool.{AreLentBy}
use Rattle.resb_lent.proofs.plan_with_pool.answers.Given as goal

abbrev pub invariant-loop-text : goal.invariant-loop-text
invariant-loop-text l = record {
  lends : (block : List ℕ) (A : List (List ℕ)) → LendsTexts l.lent block
      → AreLentBy Plain block A (nows (take l.text-index l.texts)) l.found.items;
  utf8 : All IsUtf8 (nows (take l.text-index l.texts));
}
