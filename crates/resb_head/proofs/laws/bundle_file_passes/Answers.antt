use Rattle.resb_head.proofs.FileSteps.{bundle_file_passes}
use Rattle.resb_head.proofs.laws.bundle_file_passes.Goals as goal

pub returns : goal.returns
returns c = bundle_file_passes
