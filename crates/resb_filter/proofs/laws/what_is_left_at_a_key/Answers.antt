use Rattle.resb_filter.proofs.LawLemmas.{left_at_key}
use Rattle.resb_filter.proofs.laws.what_is_left_at_a_key.Goals as goal

pub returns : goal.returns
returns c = left_at_key
