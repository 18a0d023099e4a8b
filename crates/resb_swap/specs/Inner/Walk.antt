-- What stands while the words of resources are walked.
--     IsEntered rs w          the word was walked: the body that it leads to is claimed
--     Walking f rs todo       the roles so far, and the words that wait
use Rattle.std.specs.Prelude.{◌≡◌, ◌≢◌, ℕ, ◌+◌, ◌<◌, List, length, true, ◌⊎◌}
use Rattle.std.specs.Prelude.{Contains}
use Rattle.resb_swap.specs.Numbers.{Numbered, word_in, word_count}
use Rattle.resb_swap.specs.Bodies.{Reached, body_role, place_in, type_in, is_type, is_start}
use Rattle.resb_swap.specs.Bodies.{role_in}
use Rattle.resb_swap.specs.Bodies.{member_count, member_in}
use Rattle.resb_swap.specs.Collation.{is_collation, is_whole}
use Rattle.resb_swap.specs.Roles.{Sourced, front_role, role_at}
use Rattle.resb_swap.specs.declared.role.Role.{Role}
use Rattle.resb_swap.specs.declared.role.Role.TheVariants as role

-- the word names a type, and the body to which it leads is claimed, if there is one
abbrev pub IsEntered : List Role → ℕ → Type 0
IsEntered rs w =
    (is_type (type_in w) ≡ true)
    × ((body_role w ≡ role.Free) ⊎ (role_at rs (place_in w) ≡ body_role w))

-- the word was walked, or waits
abbrev pub IsNamed : List Role → List ℕ → ℕ → Type 0
IsNamed rs todo w = IsEntered rs w ⊎ Contains todo w

-- a body whose first word is claimed: its other words are, its members were walked or wait, and
-- its collation data, if it has such, is whole
pub record HasBody (f : Numbered) (rs : List Role) (todo : List ℕ) (r : Role) (p : ℕ) : Type 0 where
  pub owns : (i : ℕ) → role_in f r p i ≢ role.Free → role_at rs i ≡ role_in f r p i
  pub members : (k : ℕ) → k < member_count f r p → IsNamed rs todo (member_in f r p k)
  pub plain : r ≡ role.Binary → is_collation f p ≡ true → is_whole f p ≡ true

-- each role has a source, each word that waits is reached, and each body that is claimed is so as a
-- whole
pub record Walking (f : Numbered) (rs : List Role) (todo : List ℕ) : Type 0 where
  pub each : length rs ≡ word_count f
  pub front : (i : ℕ) → front_role f i ≢ role.Free → role_at rs i ≡ front_role f i
  pub only : (i : ℕ) → Sourced f i (role_at rs i)
  pub waiting : (w : ℕ) → Contains todo w → Reached f w
  pub bodies : (p : ℕ) → is_start (role_at rs p) ≡ true → HasBody f rs todo (role_at rs p) p
  pub root : IsNamed rs todo (word_in f 0)

-- the first n members of a body behind the words of a list
pub record Appends (f : Numbered) (old new : List ℕ) (r : Role) (p n : ℕ) : Type 0 where
  pub old_stay : (w : ℕ) → Contains old w → Contains new w
  pub members : (k : ℕ) → k < n → Contains new (member_in f r p k)
  pub no_others : (w : ℕ) → Contains new w
      → Contains old w ⊎ ((k : ℕ) × ((k < n) × (w ≡ member_in f r p k)))
  pub as_many : length new ≡ length old + n
