use Rattle.resb_swap.specs.Inner.Tables.{Swapping}
use Rattle.resb_swap.specs.Inner.Seen.{seen}
use Rattle.resb_swap.proofs.package.swapped_package.Given as goal

-- the items so far are in the other order
abbrev pub invariant-loop-number : goal.invariant-loop-number
invariant-loop-number l = Swapping (seen l.body) l.roles.items l.to.items l.number
