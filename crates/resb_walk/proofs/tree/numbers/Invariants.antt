use Rattle.std.proofs.Common.{◌≡◌, ◌++◌, length}
use Rattle.resb_format.specs.Bytes.{words_of}
use Rattle.resb_walk.proofs.tree.numbers.Given as goal

abbrev pub invariant-numbers : goal.invariant-numbers
invariant-numbers l = words_of l.fn.bytes ≡ l.numbers.items ++ words_of l.rest

abbrev pub decreases-numbers : goal.decreases-numbers
decreases-numbers l = length (words_of l.rest)
