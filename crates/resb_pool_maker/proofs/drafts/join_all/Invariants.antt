use Rattle.std.proofs.Common.{◌≡◌, take, fold}
use Rattle.resb_draft.specs.Drafts.{texts}
use Rattle.resb_pool.specs.Plan.{nows}
use Rattle.resb_pool_maker.specs.PoolOf.{join_key}
use Rattle.resb_pool_maker.proofs.drafts.join_all.Given as goal

abbrev pub invariant-loop-key : goal.invariant-loop-key
invariant-loop-key l =
    nows l.set.keys ≡ fold join_key (nows l.initial.set.keys) (texts (take l.key-index l.keys))
