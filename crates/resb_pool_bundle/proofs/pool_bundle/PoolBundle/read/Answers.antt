-- The head, and then what it lends.
use Rattle.std.proofs.Common.{rules}
use Rattle.resb_format.specs.Error.{refusal_of}
use Rattle.resb_pool_bundle.proofs.PoolSteps.{no_head}
use Rattle.resb_pool_bundle.proofs.pool_bundle.PoolBundle.read.Goals as goal

pub returns-in_err-read : goal.returns-in_err-read
returns-in_err-read c =
    let h = no_head c.args.bytes.now (refusal_of c.in_err-read.field-0.0) c.in_err-read.ensures in
    search (rules, h)
