-- What is left of the limit, with the whole text, is the limit with what is still to come.
use Rattle.std.proofs.Common.{◌≡◌, ◌+◌, [], length}
use Rattle.resb_shown.proofs.sink.length_within.Given as goal

abbrev pub invariant-loop-block : goal.invariant-loop-block
invariant-loop-block g l = record {
  empty : l.block.items ≡ [];
  sum : l.left + length (g.B.Blocks.ahead l.fn.text)
      ≡ l.limit + length (g.B.Blocks.ahead l.text);
}

abbrev pub decreases-loop-block : goal.decreases-loop-block
decreases-loop-block g l = g.B.Blocks.left l.text
