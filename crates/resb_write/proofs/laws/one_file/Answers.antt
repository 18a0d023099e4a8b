use Rattle.resb_write.proofs.OneFile.{one_file}
use Rattle.resb_write.proofs.laws.one_file.Goals as goal

pub returns : goal.returns
returns c = one_file
