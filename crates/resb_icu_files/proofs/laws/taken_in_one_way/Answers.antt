use Rattle.resb_icu_files.proofs.OneWay.{one_way}
use Rattle.resb_icu_files.proofs.laws.taken_in_one_way.Goals as goal

pub returns : goal.returns
returns c = one_way
