use Rattle.std.specs.Map.{keys_of}
use Rattle.resb_pool.specs.Plan.{nows, at_text}
use Rattle.resb_write.proofs.Keys.{key_stays}
use Rattle.resb_write.proofs.NumberedKeys.{numbered_again}
use Rattle.resb_write.proofs.numbered_keys.join.Goals as goal

pub returns-then-is_at : goal.returns-then-is_at
returns-then-is_at c = λ ns ks h.
    let there = c.is_at.ensures.there c.if-is_at.true in
    record {
      among = λ q. key_stays c.args.key.now q (at_text c.args.distinct.now) ks
          (c.is_at.ensures.among c.if-is_at.true) (h.among q);
      numbers = numbered_again (nows (keys_of c.args.distinct.now.entries)) ns ks h.numbers
          c.args.guess there.0 c.args.key.now there.1;
    }
