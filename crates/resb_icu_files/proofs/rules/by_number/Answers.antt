use Rattle.resb_icu_files.proofs.RulesLemmas.{not_escaped}
use Rattle.resb_icu_files.proofs.rules.by_number.Goals as goal

pub returns-in_default : goal.returns-in_default
returns-in_default c = not_escaped c.args.out.now.items c.args.rest.now c.in_default.ensures.none
