use Rattle.std.proofs.Common.{◌≡◌, ℕ, ◌<◌, length}
use Rattle.resb_swap.specs.Roles.{role_at}
use Rattle.resb_swap.specs.Inner.Tables.{role_by_count}
use Rattle.resb_swap.proofs.table.table_roles.Given as goal

-- the words so far have their roles
abbrev pub invariant-loop-number : goal.invariant-loop-number
invariant-loop-number l = record {
  each : length l.roles.items ≡ l.number;
  roles : (i : ℕ) → i < l.number → role_at l.roles.items i ≡ role_by_count i l.count;
}
