use Rattle.resb_blocks.proofs.TailLaws.{end_of_tail, cut_of_tail}
use Rattle.resb_blocks.proofs.laws.keys_in_keys.Goals as goal

pub returns : goal.returns
returns c keys t from k e l = (
  end_of_tail keys t from k e,
  λ s g. cut_of_tail keys t s from k e l g,
)
