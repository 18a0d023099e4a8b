use Rattle.std.proofs.lemmas.Result.{err_from_is_err_and}
use Rattle.resb_read.specs.Places.{place_of}
use Rattle.resb_read.proofs.Measures.{held_here, measure_here, memory_refuses}
use Rattle.resb_read.proofs.measuring.measure_root.Goals as goal

pub returns-in_err-resources : goal.returns-in_err-resources
returns-in_err-resources c =
    let e = err_from_is_err_and c.from_residual.result c.from_residual.ensures.1 in
    rw (e.1, e.2) c.in_err-resources.ensures

pub sums-requires : goal.sums-requires
sums-requires c =
    let (t, d, paid) = c.in_ok-resources.ensures in
    held_here (place_of c.args.root) t c.in_ok-resources.resources c.requires d

pub returns-in_err-sums : goal.returns-in_err-sums
returns-in_err-sums c =
    let e = err_from_is_err_and c.from_residual-in_err-sums.result
    c.from_residual-in_err-sums.ensures.1 in
    rw e.1 (memory_refuses (place_of c.args.root) c.args.walk _ e.2)

pub returns : goal.returns
returns c =
    let (xs, h, adds) = c.in_ok-sums.ensures in
    measure_here (place_of c.args.root) c.args.walk c.in_ok-resources.resources
    c.in_ok-sums.sums xs c.requires c.in_ok-resources.ensures h adds
