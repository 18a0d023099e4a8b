use Rattle.resb_read.proofs.Naming.{no_key_past_end}
use Rattle.resb_read.proofs.keys.block_order.Goals as goal

pub returns-in-None-clause-ordered : goal.returns-in-None-clause-ordered
returns-in-None-clause-ordered c t h =
    absurd (no_key_past_end c.args.keys.now c.args.position c.in-None.ensures.parts t h)
