use Rattle.std.proofs.Common.{sym, ◌∙◌, subst}
use Rattle.resb_pool.specs.Plan.{nows}
use Rattle.resb_pool.specs.Inner.Ranks.{HaveCharLetters}
use Rattle.resb_pool.proofs.Utf8Order.{near_texts}
use Rattle.resb_pool.proofs.letters.are_compared_by_units.Goals as goal

pub returns-in-Compact-clause-no : goal.returns-in-Compact-clause-no
returns-in-Compact-clause-no c =
    let T = nows c.args.texts.now in
    λ e. subst (λ w. HaveCharLetters w T) (sym c.in-Compact.is)
    (near_texts T c.requires (sym c.are_far.ensures ∙ e))
