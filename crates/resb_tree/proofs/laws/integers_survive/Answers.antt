use Rattle.resb_tree.proofs.Int28Lemmas.{signed_back}
use Rattle.resb_tree.proofs.laws.integers_survive.Goals as goal
use Rattle.resb_tree.proofs.Numbers.{low_bits_kept}

pub returns : goal.returns
returns c = λ n h. (low_bits_kept n h, signed_back n h)
