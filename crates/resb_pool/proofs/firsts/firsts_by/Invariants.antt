use Rattle.std.proofs.Common.{◌≡◌, ◌<◌, ℕ, length, get_or}
use Rattle.resb_pool.specs.Plan.{nows}
use Rattle.resb_pool.specs.Inner.Firsts.{IsFirst}
use Rattle.resb_pool.specs.declared.firsts.NumberedHash.{NumberedHash}
use Rattle.resb_pool.proofs.HashRuns.{IsRun}
use Rattle.resb_pool.proofs.firsts.firsts_by.Given as goal

abbrev pub invariant-loop-item : goal.invariant-loop-item
invariant-loop-item l = record {
  len : length l.firsts.items ≡ length l.strings;
  run : IsRun (nows l.strings) l.hashes l.item-index l.first;
  each : (q : ℕ) (d : NumberedHash) → q < l.item-index → IsFirst (nows l.strings)
      (get_or l.hashes q d).number (get_or l.firsts.items (get_or l.hashes q d).number 0);
}
