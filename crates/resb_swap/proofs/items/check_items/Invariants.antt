use Rattle.std.proofs.Common.{ℕ, ◌<◌}
use Rattle.resb_swap.specs.Packages.{IsItemInPlace}
use Rattle.resb_swap.specs.Inner.Seen.{seen}
use Rattle.resb_swap.proofs.items.check_items.Given as goal

-- the items so far are where they belong
abbrev pub invariant-loop-number : goal.invariant-loop-number
invariant-loop-number l = (i : ℕ) → i < l.number → IsItemInPlace (seen l.body) i
