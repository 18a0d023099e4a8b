use Rattle.std.proofs.Common.{◌≡◌, []}
use Rattle.resb_shown.proofs.Sinking.{Gained}
use Rattle.resb_shown.proofs.sink.write_blocks.Given as goal

abbrev pub invariant-loop-block : goal.invariant-loop-block
invariant-loop-block g l = record {
  empty : l.block.items ≡ [];
  gained : Gained (g.W.Write.contents l.fn.writer) (g.W.Write.contents l.writer)
      (g.B.Blocks.ahead l.fn.text) (g.B.Blocks.ahead l.text);
}

abbrev pub decreases-loop-block : goal.decreases-loop-block
decreases-loop-block g l = g.B.Blocks.left l.text
