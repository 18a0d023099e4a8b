-- Where a pool bundle has a key. (ICU's `uresdata.h`: pool bundles.)
--     StandsWhole keys key at     the key stands whole at this byte of the pool's keys
--     StandsFirst keys key at     .. and at no lower one
--     LendsKey keys key o         o is that byte, or none where there is no such
use Rattle.std.specs.Prelude.{◌≡◌, ℕ, ◌-◌, ◌<◌, ◌≤◌, ◌^◌, List, Option, Some, Bool, true, ◌||◌}
use Rattle.std.specs.Prelude.{MatchOption, nat_eq, slice_index}
use Rattle.resb_format.specs.Strings.{key_at}

-- a key begins at this place: at the start, or right behind a zero byte
abbrev pub begins_key : List ℕ → ℕ → Bool
begins_key keys at = nat_eq at 0 || nat_eq (slice_index keys (at - 1)) 0

-- the key begins at this place, it is what stands there up to the next zero byte, and a position of
-- 31 bits reaches it
pub record StandsWhole (keys key : List ℕ) (at : ℕ) : Type 0 where
  pub begins : begins_key keys at ≡ true
  pub reads : key_at keys at ≡ Some key
  pub near : at < 2 ^ 31

-- the key stands whole at this place, and at no lower one
pub record StandsFirst (keys key : List ℕ) (at : ℕ) : Type 0 where
  pub whole : StandsWhole keys key at
  pub lowest : (p : ℕ) → StandsWhole keys key p → at ≤ p

-- a place is given exactly where the key stands whole, and it is the first one
abbrev pub LendsKey : List ℕ → List ℕ → Option ℕ → Type 0
LendsKey keys key o = MatchOption o ((p : ℕ) → StandsWhole keys key p → ⊥) (StandsFirst keys key)
