use Rattle.std.proofs.Common.{◌≡◌, reverse, take}
use Rattle.resb_layout.proofs.UpTo.{AgreeTo}
use Rattle.resb_layout.proofs.key_ends.is_up_to.Given as goal

abbrev pub invariant-loop-at : goal.invariant-loop-at
invariant-loop-at l = record {
  agree : AgreeTo l.left l.right l.at;
  front : take l.at (reverse l.left) ≡ take l.at (reverse l.right);
}
