use Rattle.std.proofs.Common.{◌≡◌, ◌++◌, ℕ, List, fold}
use Rattle.std.specs.Map.{keys_of}
use Rattle.resb_pool.specs.Plan.{nows}
use Rattle.resb_pool_maker.specs.PoolOf.{join_key}
use Rattle.resb_pool_maker.proofs.gathering.join_table.Given as goal

abbrev pub invariant-loop-key : goal.invariant-loop-key
invariant-loop-key l =
    (done : List (List ℕ)) × (done ++ l.key-iterator ≡ keys_of l.table.entries)
    × (nows l.set.keys ≡ fold join_key (nows l.initial.set.keys) done)
