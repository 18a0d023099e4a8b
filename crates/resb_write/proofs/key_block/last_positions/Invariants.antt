use Rattle.std.proofs.Common.{◌≡◌, ◌+◌, ◌-◌, ◌^◌, min, ℕ, List, length, take}
use Rattle.resb_pool.specs.Plan.{nows, at_text}
use Rattle.resb_layout.specs.KeyBlock.{key_bytes}
use Rattle.resb_write.specs.Inner.NearPositions.{near_position_in}
use Rattle.resb_write.proofs.key_block.last_positions.Given as goal

abbrev pub invariant-loop-key : goal.invariant-loop-key
invariant-loop-key l = record {
  position : l.position ≡ min (32 + length (key_bytes (nows (take l.key-index l.keys))))
      (2 ^ 64 - 1);
  positions : (q : List ℕ) → at_text l.positions q ≡ near_position_in
      (nows (take l.key-index l.keys)) q;
}
