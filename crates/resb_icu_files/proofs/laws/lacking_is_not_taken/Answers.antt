use Rattle.resb_icu_files.proofs.OneWay.{never_both}
use Rattle.resb_icu_files.proofs.laws.lacking_is_not_taken.Goals as goal

pub returns : goal.returns
returns c = never_both
