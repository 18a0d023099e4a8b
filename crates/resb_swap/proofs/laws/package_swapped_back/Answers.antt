use Rattle.resb_swap.proofs.PackageLaws.{package_swaps_back}
use Rattle.resb_swap.proofs.laws.package_swapped_back.Goals as goal

pub returns : goal.returns
returns c = package_swaps_back
