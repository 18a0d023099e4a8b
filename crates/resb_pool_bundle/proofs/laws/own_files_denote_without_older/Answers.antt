use Rattle.resb_pool_bundle.proofs.Older.{own_files_denote_without_older}
use Rattle.resb_pool_bundle.proofs.laws.own_files_denote_without_older.Goals as goal

pub returns : goal.returns
returns c = own_files_denote_without_older
