use Rattle.resb_diagnostics.proofs.BackslashLemmas.{first_backslash_is, is_first_so}
use Rattle.resb_diagnostics.proofs.laws.finds_first_backslash.Goals as goal

pub returns : goal.returns
returns c = λ text n. (first_backslash_is text n, is_first_so text n)
