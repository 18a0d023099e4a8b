use Rattle.resb_pool_bundle.proofs.PassingFiles.{files_pass}
use Rattle.resb_pool_bundle.proofs.laws.files_pass.Goals as goal

pub returns : goal.returns
returns c = files_pass
