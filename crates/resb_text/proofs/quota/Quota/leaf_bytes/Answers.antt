use Rattle.std.proofs.Common.{arith}
use Rattle.resb_text.proofs.ContentLemmas.{pairs_counted}
use Rattle.resb_text.proofs.quota.Quota.leaf_bytes.Goals as goal

pub returns-in-Binary : goal.returns-in-Binary
returns-in-Binary c =
    let pairs = rw c.in-Binary.is at c.requires.paired in
    let twice = pairs_counted c.in-Binary.digits.now pairs in
    rw c.in-Binary.is (omega (arith, twice))
