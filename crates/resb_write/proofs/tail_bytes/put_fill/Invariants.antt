use Rattle.std.proofs.Common.{◌≡◌, ◌++◌}
use Rattle.resb_layout.specs.Laid.{fill}
use Rattle.resb_write.proofs.tail_bytes.put_fill.Given as goal

abbrev pub invariant-loop-written : goal.invariant-loop-written
invariant-loop-written l = l.tail.items ≡ l.fn.tail.items ++ fill l._written
