use Rattle.std.proofs.Common.{sym, subst}
use Rattle.resb_pool.specs.Plan.{nows}
use Rattle.resb_pool.specs.Inner.Firsts.{AreHashes}
use Rattle.resb_pool.proofs.HashRuns.{hashes_reordered}
use Rattle.resb_pool.proofs.firsts.find_firsts.Goals as goal

pub firsts_by-requires-clause-hashes : goal.firsts_by-requires-clause-hashes
firsts_by-requires-clause-hashes c = subst (AreHashes (nows c.args.strings.now))
    (sym c.deref.ensures.value)
    (hashes_reordered (nows c.args.strings.now) c.in_ok-hashes.hashes.items
    c.sort_unstable.new.self.items c.sort_unstable.ensures.permutation c.in_ok-hashes.ensures)
