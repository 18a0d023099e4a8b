use Rattle.resb_read.proofs.Lasts.{last_of_a_name}
use Rattle.resb_read.proofs.laws.last_of_a_name.Goals as goal

pub returns : goal.returns
returns c = last_of_a_name
