-- What a zone and a table of zones are read from, and how many resources they take.
--     IsNamed name e           the key of the entry e is this text
--     IsReadable e             the entry's key is a text, and its value is of the type that the
--                              key asks for
--     IsLastNamed name es q    of the entries of this name the last one's value stands at q
--     ReadsZone, CountsZone    a table of readable entries, with a last `base` and a last `pairs`
--     ReadsZoneTable, CountsZoneTable
--                              a map of zones by borrowed names: the last zone of an equal name
--                              stands
use Rattle.std.specs.Prelude.{◌≡◌, ◌≤◌, ◌+◌, ◌-◌, ◌^◌, ◌⊎◌, ◌++◌, ◌∷◌, ℕ, ℤ, pos, negsuc, List}
use Rattle.std.specs.Prelude.{length, Option, Some, codes}
use Rattle.std.specs.Ordering.{nat_cmp}
use Rattle.std.specs.BTreeMap.{get_by}
use Rattle.std.specs.List.{All}
use Rattle.std.specs.Cmp.Lexicographic.{slice_cmp}
use Rattle.resb.specs.Places.{Place}
use Rattle.resb.specs.Leaves.{CountsOf, ReadsSigned, ReadsKey, ReadsView}
use Rattle.resb.specs.Sequences.{entries_at, ReadsMap, CountsMap}
use Rattle.resb.specs.Views.{pair_bytes}
use Rattle.resb_examples.specs.declared.zones.zone.Zone.{Zone}
use Rattle.resb_examples.specs.declared.zones.table.ZoneTable.{ZoneTable}

-- the name of the entry that holds the offset before all pairs
abbrev pub base_name : List ℕ
base_name = codes "base"

-- the name of the entry that holds the pairs
abbrev pub pairs_name : List ℕ
pairs_name = codes "pairs"

-- a number of 32 bits with a sign
abbrev pub ReadsNumber : Place → ℤ → ℕ → Type 0
ReadsNumber = ReadsSigned (negsuc (2 ^ 31 - 1)) (pos (2 ^ 31 - 1))

-- such a number takes so many resources
abbrev pub CountsNumber : Place → ℕ → Type 0
CountsNumber = CountsOf ReadsNumber

-- the entry's key is this text
abbrev pub IsNamed : List ℕ → Place × Place → Type 0
IsNamed name e = (n : ℕ) × ReadsKey e.0 name n

-- the entry's key is a text, and its value is a number for `base`, and a view of pairs for `pairs`
pub record IsReadable (e : Place × Place) : Type 0 where
  pub name : List ℕ
  pub named : IsNamed name e
  pub base : name ≡ base_name → (n : ℕ) × CountsNumber e.1 n
  pub pairs : name ≡ pairs_name → (n : ℕ) × CountsOf (ReadsView 8) e.1 n

-- of the entries with this name, the last one's value stands at this place
pub record IsLastNamed (name : List ℕ) (places : List (Place × Place)) (value : Place)
    : Type 0 where
  pub before : List (Place × Place)
  pub key : Place
  pub after : List (Place × Place)
  pub are : places ≡ before ++ (key, value) ∷ after
  pub named : IsNamed name (key, value)
  pub last : All (λ e. IsNamed name e → ⊥) after

-- a table of readable entries, whose last `base` and last `pairs` are those of the zone; it takes a
-- resource and one for each entry
pub record ReadsZone (p : Place) (z : Zone) (n : ℕ) : Type 0 where
  pub places : List (Place × Place)
  pub are : entries_at p ≡ Some places
  pub each : All IsReadable places
  pub base : Place
  pub base_last : IsLastNamed base_name places base
  pub base_read : (k : ℕ) × ReadsNumber base z.base k
  pub pairs : Place
  pub pairs_last : IsLastNamed pairs_name places pairs
  pub pairs_read : (k : ℕ) × ReadsView 8 pairs (pair_bytes z.pairs) k
  pub count : n ≡ 1 + length places

-- such a table takes so many resources
pub record CountsZone (p : Place) (n : ℕ) : Type 0 where
  pub places : List (Place × Place)
  pub are : entries_at p ≡ Some places
  pub each : All IsReadable places
  pub base : Place
  pub base_last : IsLastNamed base_name places base
  pub pairs : Place
  pub pairs_last : IsLastNamed pairs_name places pairs
  pub count : n ≡ 1 + length places

-- a map of zones by name, in which the last zone of an equal name stands
abbrev pub ReadsZoneTable : Place → ZoneTable → ℕ → Type 0
ReadsZoneTable p t n =
    ReadsMap (λ x y. slice_cmp nat_cmp x.now y.now) (λ q s m. ReadsKey q s.now m) ReadsZone
    p t.zones.entries n

-- such a map takes so many resources
abbrev pub CountsZoneTable : Place → ℕ → Type 0
CountsZoneTable = CountsMap (CountsOf ReadsKey) CountsZone

-- each entry can be read and paid for, but there is no `base`, or no `pairs`
pub record LacksField (p : Place) (left : ℕ) : Type 0 where
  pub places : List (Place × Place)
  pub are : entries_at p ≡ Some places
  pub each : All IsReadable places
  pub paid : 1 + length places ≤ left
  pub lacks : All (λ e. IsNamed base_name e → ⊥) places ⊎ All (λ e. IsNamed pairs_name e → ⊥) places

-- the zone of a name
abbrev pub zone_named : List ℕ → ZoneTable → Option Zone
zone_named name t = get_by (λ k. slice_cmp nat_cmp name k.now) t.zones
