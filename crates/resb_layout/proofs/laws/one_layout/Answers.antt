use Rattle.resb_layout.proofs.Once.{one_layout}
use Rattle.resb_layout.proofs.laws.one_layout.Goals as goal

pub returns : goal.returns
returns c = one_layout
