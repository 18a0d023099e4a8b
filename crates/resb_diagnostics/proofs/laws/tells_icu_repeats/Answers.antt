use Rattle.resb_diagnostics.proofs.CausesLemmas.{icu_due, icu_told}
use Rattle.resb_diagnostics.proofs.laws.tells_icu_repeats.Goals as goal

pub returns : goal.returns
returns c = λ text n w. (icu_due text n w, icu_told text n w)
