use Rattle.resb_path.proofs.WayLemmas.{one_answer_of_a_path}
use Rattle.resb_path.proofs.laws.one_answer_of_a_path.Goals as goal

pub returns : goal.returns
returns c = λ p names e holds fails. one_answer_of_a_path p names e holds fails
