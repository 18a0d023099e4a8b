-- What stands of strings in a pool that many bundles share: the records of which each saves enough,
-- as a file would share them that is packed this way.
--     ArePlanned S            the strings S have a plan, if memory is there
--     InPoolOrder way S Q     Q are the records of the strings S, in their order in a file of these
--     AreWorth way S n Q K        of the records Q, K are those that save n units or more
--     IsSharedPool way S n us     us are unit 0 and those records of the strings S, in their order
use Rattle.std.specs.Prelude.{◌≡◌, ℕ, ◌<◌, ◌≤◌, ◌^◌, List, [], ◌∷◌, length, None}
use Rattle.std.specs.Prelude.{Contains}
use Rattle.std.specs.List.{flat_map}
use Rattle.resb_pool.specs.Plan.{first_too_long, texts_size}
use Rattle.resb_pool.specs.Pool.{IsPool, Saved, record_units}
use Rattle.resb_pool.specs.declared.packing.Packing.{Packing}

-- no string is too long, and a pool has room for them
abbrev pub ArePlanned : List (List ℕ) → Type 0
ArePlanned S = (first_too_long S ≡ None) × (texts_size S < 2 ^ 28)

-- the records of the pool of just these strings, as it stands in a file that is packed this way
abbrev pub InPoolOrder : Packing → List (List ℕ) → List (List ℕ) → Type 0
InPoolOrder way S Q = IsPool way (Contains S) S Q (0 ∷ flat_map record_units Q)

-- a record that saves so many units or more is kept, in its turn, and any other one is left out
pub data AreWorth (way : Packing) (S : List (List ℕ)) (least : ℕ)
    : List (List ℕ) → List (List ℕ) → Type 0 where
  worth_none : AreWorth way S least [] []
  worth_kept : {r : List ℕ} {Q K : List (List ℕ)} {n : ℕ} → Saved way (Contains S) S r n
      → least ≤ n → AreWorth way S least Q K → AreWorth way S least (r ∷ Q) (r ∷ K)
  worth_left : {r : List ℕ} {Q K : List (List ℕ)} {n : ℕ} → Saved way (Contains S) S r n
      → n < least → AreWorth way S least Q K → AreWorth way S least (r ∷ Q) K

-- of the pool that the strings have, unit 0 and the records that are worth it
pub record IsSharedPool (way : Packing) (S : List (List ℕ)) (least : ℕ) (us : List ℕ)
    : Type 0 where
  pub records : List (List ℕ)
  pub kept : List (List ℕ)
  pub pool : InPoolOrder way S records
  pub worth : AreWorth way S least records kept
  pub units : us ≡ 0 ∷ flat_map record_units kept
  pub room : length us ≤ 2 ^ 28
