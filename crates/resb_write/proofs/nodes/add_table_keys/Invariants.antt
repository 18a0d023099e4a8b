use Rattle.std.proofs.Common.{◌≡◌, ◌++◌, ℕ, List}
use Rattle.std.specs.Map.{keys_of}
use Rattle.resb_write.specs.Inner.Numbered.{NumbersKeys}
use Rattle.resb_write.proofs.nodes.add_table_keys.Given as goal

abbrev pub invariant-loop-key : goal.invariant-loop-key
invariant-loop-key l = (ks : List (List ℕ)) → NumbersKeys l.initial.keys ks
    → (done : List (List ℕ)) × (done ++ l.key-iterator ≡ keys_of l.table.entries)
    × NumbersKeys l.keys (ks ++ done)
