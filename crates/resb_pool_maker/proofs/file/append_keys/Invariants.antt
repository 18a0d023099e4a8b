use Rattle.std.proofs.Common.{◌≡◌, ◌++◌, drop}
use Rattle.resb_layout.specs.KeyBlock.{key_bytes}
use Rattle.resb_pool.specs.Plan.{nows}
use Rattle.resb_pool_maker.proofs.file.append_keys.Given as goal

abbrev pub invariant-loop-key : goal.invariant-loop-key
invariant-loop-key l =
    l.block.items ++ key_bytes (nows (drop l.key-index l.keys))
    ≡ l.initial.block.items ++ key_bytes (nows l.keys)
