-- What is found in the map of last positions.
use Rattle.std.proofs.Common.{map, unwrap_or, inr, ◌∙◌}
use Rattle.std.proofs.lemmas.Result.{err_from_is_err_and}
use Rattle.resb_pool.specs.Plan.{nows}
use Rattle.resb_write.proofs.key_block.positions_in.Goals as goal

pub returns-in_err-check_keys-clause-err : goal.returns-in_err-check_keys-clause-err
returns-in_err-check_keys-clause-err c =
    let p = err_from_is_err_and c.from_residual-in_err-check_keys.result
    c.from_residual-in_err-check_keys.ensures.1 in
    rw (p.1, p.2) (inr (c.in_err-check_keys.ensures.err (nows c.args.keys.now)
    c.in_ok-last.ensures))

pub returns-clause-faultless : goal.returns-clause-faultless
returns-clause-faultless c =
    c.in_ok-check_keys.ensures.ok (nows c.args.keys.now) c.in_ok-last.ensures

pub returns-clause-positions : goal.returns-clause-positions
returns-clause-positions c = c.in_ok-positions_of.ensures
    ∙ (λ i. map (λ k. unwrap_or (c.in_ok-last.ensures k i) 0) (nows c.args.names.now))
