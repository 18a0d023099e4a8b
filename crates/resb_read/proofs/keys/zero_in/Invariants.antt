-- The place so far and that among the bytes that are left.
use Rattle.std.proofs.Common.{◌≡◌, ◌+◌, ◌==◌, length}
use Rattle.std.specs.List.{position_or_len}
use Rattle.resb_read.proofs.keys.zero_in.Given as goal

abbrev pub invariant-bytes : goal.invariant-bytes
invariant-bytes l =
    (l.place + position_or_len (λ b. b == 0) l.rest ≡ position_or_len (λ b. b == 0) l.bytes)
    × (l.place + length l.rest ≡ length l.bytes)

abbrev pub decreases-bytes : goal.decreases-bytes
decreases-bytes l = length l.rest
