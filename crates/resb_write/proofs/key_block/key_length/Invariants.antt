use Rattle.std.proofs.Common.{◌≡◌, ◌+◌, length, drop}
use Rattle.resb_layout.specs.KeyBlock.{key_bytes}
use Rattle.resb_pool.specs.Plan.{nows}
use Rattle.resb_write.proofs.key_block.key_length.Given as goal

abbrev pub invariant-loop-key : goal.invariant-loop-key
invariant-loop-key l = l.length + length (key_bytes (nows (drop l.key-index l.keys))) ≡ length
    (key_bytes (nows l.keys))
