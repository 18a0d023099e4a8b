use Rattle.std.proofs.Common.{[], sym, ap, ◌∙◌}
use Rattle.resb_diff.specs.Differences.{differences}
use Rattle.resb_diff.proofs.LawLemmas.{same_none, none_same}
use Rattle.resb_diff.proofs.laws.equal_trees_do_not_differ.Goals as goal

pub returns : goal.returns
returns c = λ t u. (none_same [] t u, λ e. ap (λ v. differences [] t v) (sym e) ∙ same_none [] t)
