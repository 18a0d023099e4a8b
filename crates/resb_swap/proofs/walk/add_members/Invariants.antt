use Rattle.resb_swap.specs.Inner.Seen.{seen}
use Rattle.resb_swap.specs.Inner.Walk.{Appends}
use Rattle.resb_swap.proofs.walk.add_members.Given as goal

-- the members so far wait
abbrev pub invariant-loop-number : goal.invariant-loop-number
invariant-loop-number l =
    Appends (seen l.body) l.fn.todo.items l.todo.items l.fn.role l.place l.number
