use Rattle.resb_read.proofs.Measures.{trees_weigh_no_more}
use Rattle.resb_read.proofs.laws.trees_weigh_no_more.Goals as goal

pub returns : goal.returns
returns c = trees_weigh_no_more
