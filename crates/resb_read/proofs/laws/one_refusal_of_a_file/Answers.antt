use Rattle.resb_read.proofs.OneRefusal.{one_refusal}
use Rattle.resb_read.proofs.laws.one_refusal_of_a_file.Goals as goal

pub returns : goal.returns
returns c = one_refusal
