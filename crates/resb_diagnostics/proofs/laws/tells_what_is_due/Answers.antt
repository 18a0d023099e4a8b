use Rattle.resb_diagnostics.proofs.CausesLemmas.{due, told}
use Rattle.resb_diagnostics.proofs.laws.tells_what_is_due.Goals as goal

pub returns : goal.returns
returns c = λ text n w. (due text n w, told text n w.reason w.place)
