use Rattle.resb_diagnostics.proofs.IcuOrder.{icu_in_order, icu_once}
use Rattle.resb_diagnostics.proofs.laws.tells_icu_once.Goals as goal

pub returns : goal.returns
returns c = record { once = icu_once; order = icu_in_order }
