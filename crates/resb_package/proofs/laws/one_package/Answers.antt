use Rattle.resb_package.proofs.Passing.{one_package}
use Rattle.resb_package.proofs.laws.one_package.Goals as goal

pub returns : goal.returns
returns c = one_package
