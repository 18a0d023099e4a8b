use Rattle.resb_read.proofs.WithPool.{one_tree_with_pool}
use Rattle.resb_read.proofs.laws.one_tree_of_a_file_with_pool.Goals as goal

pub returns : goal.returns
returns c = one_tree_with_pool
