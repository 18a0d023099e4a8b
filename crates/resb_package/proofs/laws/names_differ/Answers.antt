use Rattle.resb_package.proofs.Passing.{names_differ}
use Rattle.resb_package.proofs.laws.names_differ.Goals as goal

pub returns : goal.returns
returns c = names_differ
