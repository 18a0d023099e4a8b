use Rattle.std.proofs.Common.{◌≡◌, ◌≤◌, ◌+◌, ◌^◌, ◌++◌, drop}
use Rattle.resb_lent.specs.PlanWithPool.{in_turn, limit_of}
use Rattle.resb_lent.proofs.plan_with_pool.in_turn.Given as goal

abbrev pub invariant-answers : goal.invariant-answers
invariant-answers l = record {
  indexes : l.indexes.items ++ in_turn l.limit (drop l.answer-index l.found) l.turns.offsets.now
      ≡ in_turn l.limit l.found l.offsets;
  room : l.limit + limit_of l.turns.offsets.now ≤ 2 ^ 28;
}
