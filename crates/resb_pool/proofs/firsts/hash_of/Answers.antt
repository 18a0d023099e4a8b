use Rattle.resb_pool.specs.Inner.Firsts.{text_hash}
use Rattle.resb_pool.proofs.HashRuns.{hash_more, hash_done}
use Rattle.resb_pool.proofs.firsts.hash_of.Goals as goal

pub loop-byte-preserved : goal.loop-byte-preserved
loop-byte-preserved c = hash_more c.loop-byte.hash c.loop-byte.byte-index c.from.result
    (text_hash c.args.text.now) c.as_bytes-byte-items.result.now c.loop-byte-test.true
    c.from.ensures c.loop-byte.invariant

pub returns : goal.returns
returns c = hash_done c.loop-byte.hash c.loop-byte.byte-index (text_hash c.args.text.now)
    c.as_bytes-byte-items.result.now c.loop-byte-test.false c.loop-byte.invariant
