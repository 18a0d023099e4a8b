use Rattle.std.proofs.Common.{◌≡◌, ◌++◌, map, take, drop, slice_index}
use Rattle.resb_write.proofs.key_block.values_at.Given as goal

abbrev pub invariant-loop-index : goal.invariant-loop-index
invariant-loop-index l = l.index-items
    ≡ map (slice_index l.values) (take l.index-index l.fn.indexes.items)
    ++ drop l.index-index l.fn.indexes.items
