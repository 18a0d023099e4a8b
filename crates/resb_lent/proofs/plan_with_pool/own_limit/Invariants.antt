use Rattle.std.proofs.Common.{◌≡◌, ◌≤◌, ◌^◌, max, drop}
use Rattle.resb_lent.specs.PlanWithPool.{limit_of}
use Rattle.resb_lent.proofs.plan_with_pool.own_limit.Given as goal

abbrev pub invariant-loop-offset : goal.invariant-loop-offset
invariant-loop-offset l = record {
  limit : max l.limit (limit_of (drop l.offset-index l.offsets)) ≡ limit_of l.offsets;
  small : l.limit ≤ 2 ^ 32;
}
