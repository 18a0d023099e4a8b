-- How many units of the 16-bit block the bodies of resources take.
use Rattle.std.specs.Prelude.{◌≡◌, ℕ, ◌+◌, ◌-◌, ◌*◌, List, [], ◌∷◌, ◌++◌, length, map, drop, Option}
use Rattle.std.specs.Prelude.{Some, None}
use Rattle.std.specs.Prelude.{Bool, false, ◌&&◌, nat_le, nat_lt, if◌then◌else◌}
use Rattle.std.specs.List.{list_all}
use Rattle.resb_tree.specs.Tree.{Tree, string, array, table}
use Rattle.resb_tree.specs.LayingOrder.{array_members, values_of, children, entry_keys}
use Rattle.resb_layout.specs.Laid.{Given, Lends, near_by, short_by}
use Rattle.resb_write.specs.Inner.Room.{GivesInTurn}
use Rattle.resb_write.specs.declared.sites.Coming.{Coming}

-- a unit can hold what is told of the number
abbrev pub fits_unit : (ℕ → ℕ) → Option ℕ → Bool
fits_unit told (Some k) = nat_le (told k) 65535
fits_unit told None = false

-- a string at an offset that a unit can tell
abbrev pub is_near : Option Lends → Given → Tree → Bool
is_near lent g (string s) = fits_unit (short_by lent) (g.offset s)
is_near lent g _ = false

-- all of them are such strings, and a unit can count them
abbrev pub are_near_strings : Option Lends → Given → List Tree → Bool
are_near_strings lent g ts = nat_le (length ts) 65535 && list_all (is_near lent g) ts

-- the keys stand at positions that units can tell, and a unit can count them
abbrev pub are_near_keys : Option Lends → Given → List (List ℕ) → Bool
are_near_keys lent g ks =
    nat_le (length ks) 65535 && list_all (λ k. fits_unit (near_by lent) (g.position k)) ks

-- a count and so many units for each member, where a collection that isn't empty is short
abbrev pub short_units : Bool → ℕ → ℕ → ℕ
short_units is_short count each = if is_short && nat_lt 0 count then each * count + 1 else 0

-- the units that the body of a resource takes, without its members'
abbrev pub own_units : Option Lends → Given → Tree → ℕ
own_units lent g (array ts) = short_units (are_near_strings lent g (array_members ts))
    (length (array_members ts)) 1
own_units lent g (table es) = short_units
    (are_near_strings lent g (values_of es) && are_near_keys lent g (entry_keys es))
    (length (values_of es)) 2
own_units lent g _ = 0

-- the last marks of a stack are all set, and a unit can count them
abbrev pub are_set_behind : ℕ → List Bool → Bool
are_set_behind n marks = nat_le n 65535 && list_all (λ mark. mark) (drop (length marks - n) marks)

-- the trees st were passed and are in no collection that was; each of ts finds its members as the
-- last of those that were passed before it
abbrev pub Pending : List Tree → List Tree → Type 0
Pending st [] = Unit {0}
Pending st (t ∷ ts) = (below : List Tree) × (st ≡ below ++ children t)
    × Pending (below ++ t ∷ []) ts

-- behind t, whose body takes n units, its mark is in the place of its members', and what comes next
-- is that of the rest
pub record CountsOne (lent : Option Lends) (g : Given) (t : Tree) (rest below : List Tree) (n : ℕ)
    (coming : Coming) (marks : List Bool) : Type 0 where
  pub units : n ≡ own_units lent g t
  pub stack : marks ≡ map (is_near lent g) (below ++ t ∷ [])
  pub left : GivesInTurn g coming.positions.now coming.offsets.now rest
