-- The bytes of a file in the other order, by the roles of its words.
use Rattle.std.specs.Prelude.{◌≡◌, ℕ, ◌+◌, ◌-◌, ◌<◌, ◌≤◌, List, length, slice_index, true}
use Rattle.resb_swap.specs.Numbers.{header_size}
use Rattle.resb_swap.specs.Roles.{role_at}
use Rattle.resb_swap.specs.Swapped.{mirrored_byte, names_order}
use Rattle.resb_swap.specs.declared.role.Role.{Role}
use Rattle.resb_swap.specs.declared.role.Role.TheVariants as role

-- both halves of each number of 64 bits are there
pub record Paired (rs : List Role) : Type 0 where
  pub first : (i : ℕ) → role_at rs i ≡ role.First → role_at rs (i + 1) ≡ role.Second
  pub second : (i : ℕ) → role_at rs i ≡ role.Second
      → (1 ≤ i) × (role_at rs (i - 1) ≡ role.First)

-- what names an order of bytes is one of two numbers
abbrev pub AreOrders : List Role → List ℕ → Type 0
AreOrders rs bytes =
    (p : ℕ) → names_order rs (header_size bytes) p ≡ true → slice_index bytes p ≤ 1

-- so many bytes, each from its mirror place
pub record MirroredFront (rs : List Role) (from to : List ℕ) (n : ℕ) : Type 0 where
  pub as_long : length to ≡ n
  pub each : (p : ℕ) → p < n → slice_index to p ≡ mirrored_byte rs from p
