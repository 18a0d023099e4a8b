use Rattle.std.proofs.Common.{◌∙◌, ap}
use Rattle.resb_pool.specs.Plan.{nows}
use Rattle.resb_pool_maker.proofs.Joining.{joined}
use Rattle.resb_pool_maker.proofs.gathering.join.Goals as goal

pub returns : goal.returns
returns c = ap nows c.in_ok-_is_new.ensures.keys ∙ joined c.args.set.now.keys c.args.key
