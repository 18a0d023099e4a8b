-- What a list of roles is once words were claimed, and why some aren't.
--     Claimed old new from n r    n words from a place on have these roles, all others keep theirs
--     Owned f old new r p         all words of a body have their roles
use Rattle.std.specs.Prelude.{◌≡◌, ◌≢◌, ℕ, ◌+◌, ◌-◌, ◌^◌, ◌≤◌, List, length, true}
use Rattle.std.specs.Prelude.{if◌then◌else◌}
use Rattle.std.specs.List.{sum_by}
use Rattle.resb_swap.specs.Numbers.{Numbered}
use Rattle.resb_swap.specs.Bodies.{is_among, role_in}
use Rattle.resb_swap.specs.Collation.{part_role}
use Rattle.resb_swap.specs.Roles.{role_at}
use Rattle.resb_swap.specs.declared.parts.Fill.{Fill}
use Rattle.resb_swap.specs.declared.parts.Fill.TheVariants as fill
use Rattle.resb_swap.specs.declared.role.Role.{Role}
use Rattle.resb_swap.specs.declared.role.Role.TheVariants as role
use Rattle.resb_swap.specs.declared.error.SwapError.{SwapError}
use Rattle.resb_swap.specs.declared.error.SwapError.TheVariants as error

-- a free word weighs more than the members of any body
unfoldable pub weight : Role → ℕ
weight role.Free = 2 ^ 33
weight _ = 0

-- the weight of all words
abbrev pub weight_of : List Role → ℕ
weight_of rs = sum_by weight rs

-- the role of word k behind a body's first one, by what is filled in
abbrev pub fill_role : Fill → ℕ → Role
fill_role (fill.All r) k = r
fill_role (fill.Collation s) k = part_role s k

-- so many words from a place on have these roles now, and a word that had one keeps it
pub record Claimed (old new : List Role) (from n : ℕ) (r : ℕ → Role) : Type 0 where
  pub as_long : length new ≡ length old
  pub at : (i : ℕ) → role_at new i ≡ (if is_among from n i then r (i - from) else role_at old i)
  pub kept : (i : ℕ) → role_at old i ≢ role.Free → role_at new i ≡ role_at old i
  pub lighter : weight_of new ≤ weight_of old

-- a word among these has another role, or lies outside
abbrev pub FailsClaim : List Role → ℕ → ℕ → (ℕ → Role) → SwapError → Type 0
FailsClaim old from n r error.Outside =
    (i : ℕ) × ((is_among from n i ≡ true) × (length old ≤ i))
FailsClaim old from n r error.TwoRoles =
    (i : ℕ) × ((is_among from n i ≡ true) × (role_at old i ≢ role.Free)
    × (role_at old i ≢ r (i - from)))
FailsClaim old from n r _ = ⊥

-- the words of a body have the roles that it gives to them, other words keep theirs, and a word
-- that had a role keeps it
pub record Owned (f : Numbered) (old new : List Role) (r : Role) (p : ℕ) : Type 0 where
  pub as_long : length new ≡ length old
  pub own : (i : ℕ) → role_in f r p i ≢ role.Free → role_at new i ≡ role_in f r p i
  pub other : (i : ℕ) → role_in f r p i ≡ role.Free → role_at new i ≡ role_at old i
  pub kept : (i : ℕ) → role_at old i ≢ role.Free → role_at new i ≡ role_at old i
  pub lighter : weight_of new + 2 ^ 33 ≤ weight_of old

-- a word of a body has another role, or lies outside
abbrev pub FailsOwning : Numbered → List Role → Role → ℕ → SwapError → Type 0
FailsOwning f old r p error.Outside =
    (i : ℕ) × ((role_in f r p i ≢ role.Free) × (length old ≤ i))
FailsOwning f old r p error.TwoRoles =
    (i : ℕ) × ((role_in f r p i ≢ role.Free) × (role_at old i ≢ role.Free)
    × (role_at old i ≢ role_in f r p i))
FailsOwning f old r p _ = ⊥
