use Rattle.resb_icu_print.proofs.Taken.{no_cause}
use Rattle.resb_icu_print.proofs.laws.an_icu_text_gives_no_cause.Goals as goal

pub returns : goal.returns
returns c = no_cause
