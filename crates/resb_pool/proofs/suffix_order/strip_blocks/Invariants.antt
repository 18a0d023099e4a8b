use Rattle.std.proofs.Common.{length}
use denote.Shadow.{shadow}
use denote.Text.{Utf8}
use Rattle.resb_pool.specs.Inner.Cuts.{IsShared}
use Rattle.resb_pool.proofs.suffix_order.strip_blocks.Given as goal

abbrev pub invariant-loop-left_rest : goal.invariant-loop-left_rest
invariant-loop-left_rest l = record {
  left_text : shadow (Utf8 l.lefts);
  right_text : shadow (Utf8 l.rights);
  shared : IsShared l.left l.right l.lefts l.rights;
}

abbrev pub decreases-loop-left_rest : goal.decreases-loop-left_rest
decreases-loop-left_rest l = length l.lefts
