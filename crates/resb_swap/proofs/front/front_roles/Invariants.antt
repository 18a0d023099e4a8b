use Rattle.std.proofs.Common.{◌≡◌, ℕ, ◌<◌, length}
use Rattle.resb_swap.specs.Roles.{role_at}
use Rattle.resb_swap.specs.Inner.Front.{role_before}
use Rattle.resb_swap.proofs.front.front_roles.Given as goal

-- the words so far have their roles
abbrev pub invariant-loop-number : goal.invariant-loop-number
invariant-loop-number l = record {
  each : length l.roles.items ≡ l.number;
  roles : (i : ℕ) → i < l.number
      → role_at l.roles.items i ≡ role_before i l.fields l.keys_end l.block_end;
}
