use Rattle.resb_package.proofs.Passing.{package_passes}
use Rattle.resb_package.proofs.laws.package_passes.Goals as goal

pub returns : goal.returns
returns c = package_passes
