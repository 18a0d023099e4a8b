use Rattle.std.proofs.Common.{◌-◌}
use Rattle.resb_swap.specs.Inner.Claims.{Claimed, fill_role}
use Rattle.resb_swap.proofs.claims.claim.Given as goal

-- the words before the loop's place are claimed
abbrev pub invariant-loop-i : goal.invariant-loop-i
invariant-loop-i l = Claimed l.fn.roles l.roles l.from (l.i - l.from) (fill_role l.fill)
