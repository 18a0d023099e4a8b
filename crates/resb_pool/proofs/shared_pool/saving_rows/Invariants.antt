use Rattle.std.proofs.Common.{◌≡◌, take}
use Rattle.resb_pool.specs.Inner.Ranked.{saving}
use Rattle.resb_pool.proofs.shared_pool.saving_rows.Given as goal

abbrev pub invariant-loop-row : goal.invariant-loop-row
invariant-loop-row l = l.kept.items ≡ saving l.least (take l.row-index l.rows)
