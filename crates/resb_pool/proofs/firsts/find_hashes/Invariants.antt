use Rattle.std.proofs.Common.{◌≡◌, ◌<◌, ℕ, length, get_or}
use Rattle.resb_pool.specs.Plan.{nows}
use Rattle.resb_pool.specs.Inner.Firsts.{hash_numbered}
use Rattle.resb_pool.specs.declared.firsts.NumberedHash.{NumberedHash}
use Rattle.resb_pool.proofs.firsts.find_hashes.Given as goal

abbrev pub invariant-loop-index : goal.invariant-loop-index
invariant-loop-index l = record {
  len : length l.hashes.items ≡ l.index;
  each : (i : ℕ) (d : NumberedHash) → i < l.index
      → get_or l.hashes.items i d ≡ hash_numbered (nows l.strings) i;
}
