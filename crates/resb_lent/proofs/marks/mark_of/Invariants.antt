use Rattle.std.proofs.Common.{◌≡◌, ◌<◌, reverse}
use Rattle.resb_lent.specs.Inner.Marks.{last_mark}
use Rattle.resb_lent.proofs.marks.mark_of.Given as goal

abbrev pub invariant-bytes : goal.invariant-bytes
invariant-bytes l = record {
  small : l.mark < 4096;
  same : last_mark l.left l.mark (reverse l.bytes) ≡ last_mark 4 0 (reverse l.text);
}

abbrev pub decreases-bytes : goal.decreases-bytes
decreases-bytes l = l.left
