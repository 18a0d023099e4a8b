use Rattle.resb_filter.proofs.LawLemmas.{none_leave_all}
use Rattle.resb_filter.proofs.laws.no_rules_leave_all.Goals as goal

pub returns : goal.returns
returns c = none_leave_all
