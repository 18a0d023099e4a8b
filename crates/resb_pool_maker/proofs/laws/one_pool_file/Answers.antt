use Rattle.resb_pool_maker.proofs.OneFile.{one_pool_file}
use Rattle.resb_pool_maker.proofs.laws.one_pool_file.Goals as goal

pub returns : goal.returns
returns c = λ q bytes others bs. one_pool_file q bytes others bs
