use Rattle.std.proofs.Common.{inr, rules}
use Rattle.resb_pool_bundle.proofs.PassingFiles.{pool_is}
use Rattle.resb_c.proofs.files.pool_of.Goals as goal

pub returns-in-Ok-clause-ok : goal.returns-in-Ok-clause-ok
returns-in-Ok-clause-ok c =
    (inr (pool_is c.args.bytes.now c.in-Ok.ensures.0), search rules)
