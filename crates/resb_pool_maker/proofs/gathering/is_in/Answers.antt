use Rattle.std.proofs.Common.{◌∙◌}
use Rattle.resb_pool_maker.proofs.Joining.{any_nows}
use Rattle.resb_pool_maker.proofs.gathering.is_in.Goals as goal

pub returns : goal.returns
returns c = c.contains.ensures ∙ any_nows c.args.key.now c.args.set.now.keys
