use Rattle.resb_icu_print.proofs.Bundles.{printed_without_cause}
use Rattle.resb_icu_print.proofs.laws.printed_icu_is_a_bundle.Goals as goal

pub returns : goal.returns
returns c = printed_without_cause
