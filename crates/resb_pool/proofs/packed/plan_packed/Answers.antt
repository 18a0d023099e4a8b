use Rattle.std.proofs.lemmas.Result.{IfOk-weaker}
use Rattle.resb_pool.specs.Plan.{nows}
use Rattle.resb_pool.proofs.Endings.{ended_none}
use Rattle.resb_pool.proofs.packed.plan_packed.Goals as goal

pub returns-clause-ok : goal.returns-clause-ok
returns-clause-ok c =
    let S = nows c.args.strings.items in
    IfOk-weaker c.plan_beside.result _ _ (λ p h. h S (ended_none c.args.packing S))
    c.plan_beside.ensures.ok
