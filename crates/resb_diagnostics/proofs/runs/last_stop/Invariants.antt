-- Neither a quote nor a backslash stands before the place.
use Rattle.resb_diagnostics.specs.Inner.Tokens.{IsPlain}
use Rattle.resb_diagnostics.proofs.runs.last_stop.Given as goal

abbrev pub invariant-loop-at : goal.invariant-loop-at
invariant-loop-at l = IsPlain l.text l.from l.at
