use Rattle.std.proofs.Common.{suc, take, drop, get_or, sym, ◌∙◌, ap}
use Rattle.resb_pool.specs.Plan.{nows, first_too_long, too_long}
use Rattle.resb_pool.proofs.TextLoops.{blank, nows-take, nows-split, first_push, first_found}
use Rattle.resb_pool.proofs.measure.check_lengths.Goals as goal

pub returns-in-Some-clause-err : goal.returns-in-Some-clause-err
returns-in-Some-clause-err c =
    let xs = c.args.strings.now in
    let i = c.loop-text.text-index in
    too_long {n = c.in-Some.count}
    (ap first_too_long (nows-split xs i blank c.loop-text-test.true)
    ∙ first_found (nows (take i xs)) (get_or xs i blank).now (nows (drop (suc i) xs))
    c.in-Some.count c.loop-text.invariant (sym c.in-Some.ensures))

pub loop-text-preserved : goal.loop-text-preserved
loop-text-preserved c =
    let xs = c.args.strings.now in
    let i = c.loop-text.text-index in
    ap first_too_long (nows-take xs i blank c.loop-text-test.true)
    ∙ first_push (nows (take i xs)) (get_or xs i blank).now c.loop-text.invariant
    (sym c.in_default.ensures)
