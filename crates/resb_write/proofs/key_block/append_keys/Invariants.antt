use Rattle.std.proofs.Common.{◌≡◌, ◌++◌, drop}
use Rattle.resb_layout.specs.KeyBlock.{key_bytes}
use Rattle.resb_pool.specs.Plan.{nows}
use Rattle.resb_write.proofs.key_block.append_keys.Given as goal

abbrev pub invariant-loop-key : goal.invariant-loop-key
invariant-loop-key l = l.file.items ++ key_bytes (nows (drop l.key-index l.keys)) ≡
    l.initial.file.items ++ key_bytes (nows l.keys)
