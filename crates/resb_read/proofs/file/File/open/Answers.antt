-- The head, and then the file beside the pool.
use Rattle.std.proofs.Common.{rules}
use Rattle.std.specs.Prelude.{option_map}
use Rattle.resb_format.specs.Error.{refusal_of}
use Rattle.resb_pool_bundle.specs.Pool.{pool_in}
use Rattle.resb_pool_bundle.proofs.PoolSteps.{head_answers}
use Rattle.resb_read.proofs.file.File.open.Goals as goal

pub returns-in_err-read : goal.returns-in_err-read
returns-in_err-read c =
    let h = head_answers (option_map pool_in c.args.pool) c.args.bytes.now
    (refusal_of c.in_err-read.field-0.0) c.in_err-read.ensures in
    search (rules, h)
