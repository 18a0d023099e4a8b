use Rattle.std.proofs.Common.{◌≡◌, filter, take}
use Rattle.resb_tree.specs.Keys.{same_text}
use Rattle.resb_pool.specs.Plan.{nows}
use Rattle.resb_layout.specs.CompactKeys.{container}
use Rattle.resb_layout.proofs.key_ends.kept_keys.Given as goal

abbrev pub invariant-loop-key : goal.invariant-loop-key
invariant-loop-key l = nows l.kept.items
    ≡ filter (λ k. same_text k (container (nows l.keys) k)) (nows (take l.key-index l.keys))
