use Rattle.resb_head.proofs.Passing.{header_passes}
use Rattle.resb_head.proofs.laws.header_passes.Goals as goal

pub returns : goal.returns
returns c = header_passes
