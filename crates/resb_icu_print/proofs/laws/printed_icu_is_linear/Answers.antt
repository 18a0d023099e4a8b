use Rattle.resb_icu_print.proofs.Sizes.{within_limit}
use Rattle.resb_icu_print.proofs.laws.printed_icu_is_linear.Goals as goal

pub returns : goal.returns
returns c = λ name fallback es held. within_limit name fallback es held.1
