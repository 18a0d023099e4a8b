-- The strings over the records of the pool's block.
use Rattle.std.proofs.Common.{subst, ap}
use Rattle.resb_pool.specs.Plan.{nows}
use Rattle.resb_pool_bundle.specs.Pool.{pool_in}
use Rattle.resb_lent.specs.PlanWithPool.{IsPlanWithBy}
use Rattle.resb_write.proofs.with_pool.plan_beside.Goals as goal

pub returns-clause-ok : goal.returns-clause-ok
returns-clause-ok c =
    let p = c.in_ok-by.field-0 in
    let block = (pool_in c.args.pool.now).block in
    subst (λ S. IsPlanWithBy c.args.packing block S p.units.items p.indexes.items p.limit
    p.short_limit)
    (ap nows c.deref.ensures.value)
    (c.in_ok-by.ensures.ok _ c.texts.ensures)
