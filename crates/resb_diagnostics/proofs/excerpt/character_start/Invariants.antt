-- No character begins among the bytes that were passed.
use Rattle.resb_diagnostics.specs.Excerpt.{BeginsNone}
use Rattle.resb_diagnostics.proofs.excerpt.character_start.Given as goal

abbrev pub invariant-loop-at : goal.invariant-loop-at
invariant-loop-at l = BeginsNone l.text l.from l.at
