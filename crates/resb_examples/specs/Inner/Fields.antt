-- What the entries of a zone say, as far as they are read.
use Rattle.std.specs.Prelude.{◌≡◌, ◌+◌, ◌⊎◌, ◌++◌, ℕ, List, length, Option, Some, None}
use Rattle.std.specs.List.{All}
use Rattle.resb.specs.Places.{Place, place_of}
use Rattle.resb.specs.Leaves.{ReadsView}
use Rattle.resb.specs.Spots.{cost_at}
use Rattle.resb.specs.Views.{pair_bytes}
use Rattle.resb.specs.declared.binary.Cursor.{Cursor}
use Rattle.resb.specs.declared.binary.helpers.PairView.{PairView}
use Rattle.resb_examples.specs.Zones.{base_name, pairs_name, ReadsNumber, IsNamed, IsReadable}
use Rattle.resb_examples.specs.Zones.{IsLastNamed}
use Rattle.resb_examples.specs.declared.zones.fields.Fields.{Fields}

-- the places of a key and its value
abbrev pub entry_of : Cursor → Cursor → Place × Place
entry_of key value = (place_of key, place_of value)

-- a key, which costs nothing, and a resource, which costs one
abbrev pub CostsAsEntry : Place × Place → Type 0
CostsAsEntry e = (cost_at e.0.at ≡ 0) × (cost_at e.1.at ≡ 1)

abbrev pub ReadsPairView : Place → PairView → ℕ → Type 0
ReadsPairView q v k = ReadsView 8 q (pair_bytes v) k

module _ {X : Type 0} (name : List ℕ) (reads : Place → X → ℕ → Type 0) where
  -- an entry of this name is read, and any other changes nothing
  abbrev pub TakesNamed : Place × Place → Option X → Option X → Type 0
  TakesNamed e old new =
      (IsNamed name e × (x : X) × (k : ℕ) × reads e.1 x k × (new ≡ Some x))
      ⊎ ((IsNamed name e → ⊥) × (new ≡ old))

  -- the value of the last entry of this name, if there is one
  abbrev pub LastSoFar : List (Place × Place) → Option X → Type 0
  LastSoFar places None = All (λ e. IsNamed name e → ⊥) places
  LastSoFar places (Some x) = (q : Place) × IsLastNamed name places q × (k : ℕ) × reads q x k

pub record HasTaken (e : Place × Place) (old new : Fields) : Type 0 where
  pub readable : IsReadable e
  pub base : TakesNamed base_name ReadsNumber e old.base new.base
  pub pairs : TakesNamed pairs_name ReadsPairView e old.pairs new.pairs

pub record HasSeen (places : List (Place × Place)) (f : Fields) : Type 0 where
  pub each : All IsReadable places
  pub base : LastSoFar base_name ReadsNumber places f.base
  pub pairs : LastSoFar pairs_name ReadsPairView places f.pairs

-- the front of all entries has been read, and the budget has fallen by one for each
pub record FieldsFront (all rest : List (Place × Place)) (f : Fields) (before left : ℕ)
    : Type 0 where
  pub done : List (Place × Place)
  pub are : all ≡ done ++ rest
  pub seen : HasSeen done f
  pub paid : left + length done ≡ before
