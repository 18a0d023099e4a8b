use Rattle.resb_icu_files.proofs.CollationLemmas.{not_said}
use Rattle.resb_icu_files.proofs.collation.by_digits.Goals as goal

pub returns-in_default : goal.returns-in_default
returns-in_default c =
    not_said c.args.quoted c.args.out.now.items c.args.rest.now c.args.count
    c.in_default.ensures.none
