use Rattle.std.proofs.Common.{◌≡◌}
use Rattle.std.proofs.lemmas.Result.{err_from_is_err_and}
use Rattle.resb_read.specs.Places.{place_of}
use Rattle.resb_read.proofs.Rooted.{count_here}
use Rattle.resb_read.proofs.whole_files.count_root.Goals as goal

pub returns-in_err-count_resource : goal.returns-in_err-count_resource
returns-in_err-count_resource c =
    let e = err_from_is_err_and c.from_residual.result c.from_residual.ensures.1 in
    rw (e.1, e.2) (c.in_err-count_resource.ensures.refused.1, c.in_err-count_resource.ensures.meets)

pub returns : goal.returns
returns c =
    let (t, n, d, paid) = c.in_ok-count_resource.ensures.read in
    let before : c.left-before.result ≡ c.args.walk = c.left-before.ensures in
    let after : c.left.result ≡ c.count_resource.new.walk = c.left.ensures in
    rw (before, after)
    (count_here (place_of c.args.root) c.args.walk c.count_resource.new.walk t n d paid)
