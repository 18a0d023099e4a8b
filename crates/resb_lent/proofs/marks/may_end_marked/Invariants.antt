use Rattle.std.proofs.Common.{◌≡◌, ◌<◌, reverse}
use Rattle.resb_lent.specs.Inner.Marks.{is_hit}
use Rattle.resb_lent.proofs.marks.may_end_marked.Given as goal

abbrev pub invariant-bytes : goal.invariant-bytes
invariant-bytes l = record {
  small : l.mark < 4096;
  same : is_hit l.marks l.left l.mark (reverse l.bytes) ≡ is_hit l.marks 4 0 (reverse l.text);
}

abbrev pub decreases-bytes : goal.decreases-bytes
decreases-bytes l = l.left
