use Rattle.resb_diff.proofs.MakeLemmas.{differences_make}
use Rattle.resb_diff.proofs.laws.differences_make_the_new_tree.Goals as goal

pub returns : goal.returns
returns c = differences_make
