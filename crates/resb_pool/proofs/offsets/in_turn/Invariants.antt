use Rattle.std.proofs.Common.{◌≡◌, ◌++◌, map, take, drop, slice_index}
use Rattle.resb_pool.proofs.offsets.in_turn.Given as goal

abbrev pub invariant-loop-turn : goal.invariant-loop-turn
invariant-loop-turn l = l.turn-items
    ≡ map (slice_index l.offsets) (take l.turn-index l.fn.indexes.items)
    ++ drop l.turn-index l.fn.indexes.items
