use Rattle.std.proofs.Common.{◌≡◌, map, take, unwrap_or}
use Rattle.resb_pool.specs.Plan.{nows, at_text}
use Rattle.resb_write.proofs.key_block.positions_of.Given as goal

abbrev pub invariant-loop-key : goal.invariant-loop-key
invariant-loop-key l = l.found.items
    ≡ map (λ k. unwrap_or (at_text l.positions k) 0) (nows (take l.key-index l.keys))
