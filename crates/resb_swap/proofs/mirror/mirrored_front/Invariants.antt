use Rattle.std.proofs.Common.{◌≡◌, ℕ, ◌<◌, length, get_or}
use Rattle.resb_swap.specs.Swapped.{mirrored_byte}
use Rattle.resb_swap.proofs.mirror.mirrored_front.Given as goal

-- the bytes so far
abbrev pub invariant-loop-place : goal.invariant-loop-place
invariant-loop-place l = record {
  as_long : length l.to.items ≡ l.place;
  each : (p : ℕ) → p < l.place → get_or l.to.items p 0 ≡ mirrored_byte l.roles l.bytes p;
}
