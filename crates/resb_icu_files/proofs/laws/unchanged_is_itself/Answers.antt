use Rattle.resb_icu_files.proofs.OneWay.{as_itself}
use Rattle.resb_icu_files.proofs.laws.unchanged_is_itself.Goals as goal

pub returns : goal.returns
returns c = as_itself
