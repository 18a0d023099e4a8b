use Rattle.std.proofs.Common.{sym, subst}
use Rattle.std.proofs.lemmas.Result.{IfOk-weaker}
use Rattle.resb_pool.specs.Plan.{nows}
use Rattle.resb_pool_bundle.specs.Pool.{pool_in}
use Rattle.resb_write.specs.Inner.Beside.{IsKeyBlockBeside}
use Rattle.resb_write.proofs.EndKeys.{block_beside}
use Rattle.resb_write.proofs.keys_beside.key_block_beside.Goals as goal

pub returns-in-Compact-clause-ok : goal.returns-in-Compact-clause-ok
returns-in-Compact-clause-ok c =
    let keys = (pool_in c.args.pool.now).keys in
    let list = c.args.wanted.now.list.now in
    IfOk-weaker c.end_keys.result _ _ (λ b h us n.
    subst (λ q. IsKeyBlockBeside q keys us list (nows b.keys.items) b.positions.items)
    (sym c.in-Compact.is)
    (block_beside c.ends.result.now keys c.ends.ensures us list (nows b.keys.items)
    b.positions.items (h us n))) c.end_keys.ensures.ok
