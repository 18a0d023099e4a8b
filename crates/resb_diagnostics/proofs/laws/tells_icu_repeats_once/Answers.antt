use Rattle.resb_diagnostics.proofs.IcuRepeatsOrder.{repeats_in_order, repeats_once}
use Rattle.resb_diagnostics.proofs.laws.tells_icu_repeats_once.Goals as goal

pub returns : goal.returns
returns c = record { once = repeats_once; order = repeats_in_order }
