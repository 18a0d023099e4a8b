use Rattle.resb_swap.proofs.PackageOne.{one_package}
use Rattle.resb_swap.proofs.laws.one_package_swap.Goals as goal

pub returns : goal.returns
returns c = one_package
