-- The roles of the words in front of all bodies.
use Rattle.std.specs.Prelude.{◌≡◌, ℕ, List, length, nat_le, nat_lt, if◌then◌else◌}
use Rattle.resb_swap.specs.Numbers.{Numbered, word_count}
use Rattle.resb_swap.specs.Roles.{front_role, role_at}
use Rattle.resb_swap.specs.declared.role.Role.{Role}
use Rattle.resb_swap.specs.declared.role.Role.TheVariants as role

-- the role of a word, by where index, keys and 16-bit block end
abbrev pub role_before : ℕ → ℕ → ℕ → ℕ → Role
role_before i fields keys_end block_end =
    if nat_le i fields then role.Words
    else if nat_lt i keys_end then role.Bytes
    else if nat_lt i block_end then role.Units
    else role.Free

-- each word has its role, and no word is left out
pub record FrontRoles (f : Numbered) (rs : List Role) : Type 0 where
  pub each : length rs ≡ word_count f
  pub roles : (i : ℕ) → role_at rs i ≡ front_role f i
