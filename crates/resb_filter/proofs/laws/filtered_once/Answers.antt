use Rattle.resb_filter.proofs.LawLemmas.{filtered_again}
use Rattle.resb_filter.proofs.laws.filtered_once.Goals as goal

pub returns : goal.returns
returns c = filtered_again
