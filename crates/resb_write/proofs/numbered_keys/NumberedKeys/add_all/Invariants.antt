use Rattle.std.proofs.Common.{◌++◌, ℕ, List, take}
use Rattle.resb_pool.specs.Plan.{nows}
use Rattle.resb_write.specs.Inner.Numbered.{NumbersKeys}
use Rattle.resb_write.proofs.numbered_keys.NumberedKeys.add_all.Given as goal

abbrev pub invariant-loop-key : goal.invariant-loop-key
invariant-loop-key l = (ks : List (List ℕ)) → NumbersKeys l.initial.self ks
    → NumbersKeys l.self (ks ++ nows (take l.key-index l.list))
