use Rattle.resb_pool_bundle.proofs.OwnFiles.{own_files_denote_the_same}
use Rattle.resb_pool_bundle.proofs.laws.own_files_denote_the_same.Goals as goal

pub returns : goal.returns
returns c = own_files_denote_the_same
