-- A draft stands in laying order, or is laid by its numbers.
use Rattle.std.proofs.Common.{sym, subst}
use Rattle.std.proofs.lemmas.Result.{err_from_is_err_and}
use Rattle.resb_write.specs.Layouts.{RefusesOver, pool_of}
use Rattle.resb_write.proofs.Refusals.{no_memory_by}
use Rattle.resb_write.proofs.serializer.write_draft.Goals as goal

pub returns-in_err-order-clause-err : goal.returns-in_err-order-clause-err
returns-in_err-order-clause-err c =
    let p = err_from_is_err_and c.from_residual-in_err-order.result
    c.from_residual-in_err-order.ensures.1 in
    rw p.1 (subst (RefusesOver c.args.wanted.now.layout _ c.args.wanted.now.list.now) (sym p.2)
    (no_memory_by (pool_of c.args.wanted.now.layout) _ c.args.wanted.now.list.now))

pub returns-in_err-stands_in_order-clause-err : goal.returns-in_err-stands_in_order-clause-err
returns-in_err-stands_in_order-clause-err c =
    let p = err_from_is_err_and c.from_residual.result c.from_residual.ensures.1 in
    rw p.1 (subst (RefusesOver c.args.wanted.now.layout _ c.args.wanted.now.list.now) (sym p.2)
    (no_memory_by (pool_of c.args.wanted.now.layout) _ c.args.wanted.now.list.now))
