use Rattle.std.proofs.Common.{◌≡◌, drop}
use Rattle.resb_pool.specs.Inner.Firsts.{text_hash, hash_with}
use Rattle.resb_pool.proofs.firsts.hash_of.Given as goal

abbrev pub invariant-loop-byte : goal.invariant-loop-byte
invariant-loop-byte l = hash_with l.hash (drop l.byte-index l.byte-items) ≡ text_hash l.text
