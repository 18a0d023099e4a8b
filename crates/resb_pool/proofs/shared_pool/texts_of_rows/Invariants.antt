use Rattle.std.proofs.Common.{◌≡◌, take}
use Rattle.resb_pool.specs.Plan.{nows}
use Rattle.resb_pool.specs.Inner.Placing.{record_texts}
use Rattle.resb_pool.proofs.shared_pool.texts_of_rows.Given as goal

abbrev pub invariant-loop-row : goal.invariant-loop-row
invariant-loop-row l =
    nows l.found.items ≡ record_texts (nows l.texts) (take l.row-index l.rows)
