use Rattle.resb_diagnostics.proofs.IcuCausesLemmas.{icu_due, icu_told}
use Rattle.resb_diagnostics.proofs.laws.tells_what_is_icu_due.Goals as goal

pub returns : goal.returns
returns c = λ text n w. (icu_due text n w, icu_told text n w.reason w.place)
