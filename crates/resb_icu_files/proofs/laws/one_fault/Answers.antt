use Rattle.resb_icu_files.proofs.OneWay.{one_fault}
use Rattle.resb_icu_files.proofs.laws.one_fault.Goals as goal

pub returns : goal.returns
returns c = one_fault
