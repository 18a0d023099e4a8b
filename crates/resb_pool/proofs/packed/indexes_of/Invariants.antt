use Rattle.std.proofs.Common.{◌≡◌, map, take}
use Rattle.std.specs.Prelude.{slice_index}
use Rattle.resb_pool.proofs.packed.indexes_of.Given as goal

abbrev pub invariant-loop-number : goal.invariant-loop-number
invariant-loop-number l =
    l.indexes.items ≡ map (slice_index l.order) (take l.number-index l.numbers)
