use Rattle.std.proofs.Common.{◌≡◌, map, take}
use Rattle.std.specs.Prelude.{slice_index}
use Rattle.resb_pool.specs.Plan.{nows}
use Rattle.resb_pool.specs.Inner.Placing.{indexed_text}
use Rattle.resb_pool.proofs.holders.texts_of.Given as goal

abbrev pub invariant-loop-index : goal.invariant-loop-index
invariant-loop-index l = nows l.found.items
    ≡ map (λ i. indexed_text (nows l.texts) (slice_index l.of i)) (take l.index-index l.indexes)
