-- What is left is what is left of the wanted bytes exactly where all is.
use Rattle.std.proofs.Common.{◌≡◌, length}
use Rattle.resb_read.specs.Inner.Naming.{is_plain}
use Rattle.resb_read.proofs.keys.is_same.Given as goal

abbrev pub invariant-bytes : goal.invariant-bytes
invariant-bytes l = is_plain l.rest l.left ≡ is_plain l.bytes l.wanted

abbrev pub decreases-bytes : goal.decreases-bytes
decreases-bytes l = length l.left
