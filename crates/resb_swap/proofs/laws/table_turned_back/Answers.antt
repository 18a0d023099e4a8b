use Rattle.resb_swap.proofs.PackageLaws.{table_turns_back}
use Rattle.resb_swap.proofs.laws.table_turned_back.Goals as goal

pub returns : goal.returns
returns c = table_turns_back
