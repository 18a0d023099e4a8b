use Rattle.std.proofs.Common.{◌≡◌, ◌≤◌, ◌^◌, max, drop}
use Rattle.resb_lent.specs.PlanWithPool.{given, limit_of}
use Rattle.resb_lent.proofs.plan_with_pool.lent_limit.Given as goal

abbrev pub invariant-loop-answer : goal.invariant-loop-answer
invariant-loop-answer l = record {
  limit : max l.limit (limit_of (given (drop l.answer-index l.found))) ≡ limit_of (given l.found);
  small : l.limit ≤ 2 ^ 32;
}
