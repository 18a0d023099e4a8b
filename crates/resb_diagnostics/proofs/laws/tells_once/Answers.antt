use Rattle.resb_diagnostics.specs.Warnings.{warned}
use Rattle.resb_diagnostics.proofs.OnceLists.{all_pairs}
use Rattle.resb_diagnostics.proofs.OnceLemmas.{once_warned}
use Rattle.resb_diagnostics.proofs.laws.tells_once.Goals as goal

pub returns : goal.returns
returns c = λ text n each. all_pairs (warned text n) (once_warned text n each)
