use Rattle.resb_shown.proofs.Sinking.{Gained}
use Rattle.resb_shown.proofs.sink.write_whole.Given as goal

abbrev pub invariant-loop : goal.invariant-loop
invariant-loop g l =
    Gained (g.W.Write.contents l.fn.writer) (g.W.Write.contents l.writer) l.bytes l.rest
