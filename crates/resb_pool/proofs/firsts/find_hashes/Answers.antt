use Rattle.std.proofs.Common.{arith}
use Rattle.resb_pool.specs.Plan.{nows}
use Rattle.resb_pool.proofs.Interning.{length-nows}
use Rattle.resb_pool.proofs.HashRuns.{hashes_in_turn}
use Rattle.resb_pool.proofs.firsts.find_hashes.Goals as goal

pub returns : goal.returns
returns c =
    let v = c.loop-index.invariant in
    let n = length-nows c.args.strings.now in
    hashes_in_turn (nows c.args.strings.now) c.loop-index.hashes.items
    (omega (arith, n, v.len, c.loop-index-test.false))
    (λ i d l. v.each i d (omega (arith, n, c.loop-index-test.false)))
