use Rattle.std.proofs.Common.{◌≡◌, filter, take}
use Rattle.std.specs.Option.{is_none}
use Rattle.resb_pool.specs.Plan.{nows}
use Rattle.resb_lent.specs.Lending.{lent_place}
use Rattle.resb_write.proofs.keys_beside.own_keys.Given as goal

abbrev pub invariant-loop-key : goal.invariant-loop-key
invariant-loop-key l = nows l.own.items
    ≡ filter (λ k. is_none (lent_place l.lent k)) (nows (take l.key-index l.keys))
