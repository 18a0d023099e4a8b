-- All bytes so far are word characters.
use Rattle.resb_grammar.specs.ByteRuns.{Each, is_word}
use Rattle.resb_diagnostics.proofs.runs.word_end.Given as goal

abbrev pub invariant-loop-at : goal.invariant-loop-at
invariant-loop-at l = record { each : Each is_word l.text l.from l.at }
