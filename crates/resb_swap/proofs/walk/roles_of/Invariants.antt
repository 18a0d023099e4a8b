use Rattle.std.proofs.Common.{◌+◌, length}
use Rattle.resb_swap.specs.Inner.Claims.{weight_of}
use Rattle.resb_swap.specs.Inner.Seen.{seen}
use Rattle.resb_swap.specs.Inner.Walk.{Walking}
use Rattle.resb_swap.proofs.walk.roles_of.Given as goal

-- what stands while words are walked
abbrev pub invariant-loop-word : goal.invariant-loop-word
invariant-loop-word l = Walking (seen l.body) l.roles.items l.todo.items

-- the weight of the free words, and the words that wait
abbrev pub decreases-loop-word : goal.decreases-loop-word
decreases-loop-word l = weight_of l.roles.items + length l.todo.items
