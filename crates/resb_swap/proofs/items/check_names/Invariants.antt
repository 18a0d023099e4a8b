use Rattle.std.proofs.Common.{ℕ, ◌<◌}
use Rattle.resb_swap.specs.Packages.{IsNameInPlace}
use Rattle.resb_swap.specs.Inner.Seen.{seen}
use Rattle.resb_swap.proofs.items.check_names.Given as goal

-- the names so far are where they belong
abbrev pub invariant-loop-number : goal.invariant-loop-number
invariant-loop-number l = (i : ℕ) → i < l.number → IsNameInPlace (seen l.body) i
