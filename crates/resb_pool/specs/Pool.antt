-- How strings S stand at the front of the 16-bit block. (ICU's `reslist.cpp`: shared suffixes.)
-- S holds a text as often as it stands in the tree. Sizes and offsets count 16-bit units.
-- A file is packed one way or the other. A are its texts, and those of a pool bundle beside it.
--     LiesIn way S s r        s lies in the record r
--     Saved way A S r n       sharing the record r saves n units
--     Precedes way A S r q    the record r stands before the record q
--     IsPool way A S Q us     the units us are unit 0 and the records Q of S, in their order
--     Off way S Q s k         s stands at unit k
use Rattle.std.specs.Prelude.{◌≡◌, ℕ, ◌+◌, ◌<◌, List, [], ◌∷◌, ◌++◌, length, slice_index_or, sum_by}
use Rattle.std.specs.Prelude.{◌⊎◌}
use Rattle.std.specs.List.{flat_map}
use Rattle.std.specs.declared.cmp.Ordering.TheVariants.{Less}
use Rattle.resb_format.specs.Units.{units, marker, size}
use Rattle.resb_pool.specs.Order.{start_cmp}
use Rattle.resb_pool.specs.Records.{IsRecords}
use Rattle.resb_pool.specs.Container.{IsContainer, IsTop}
use Rattle.resb_pool.specs.declared.packing.Packing.{Packing}
use Rattle.resb_pool.specs.declared.packing.Packing.TheVariants.{Plain, Compact}

-- a text that isn't empty lies in its container: a record in itself, a shared suffix in the
-- greatest record that ends with it and may hold it
pub record LiesIn (way : Packing) (S : List (List ℕ)) (s r : List ℕ) : Type 0 where
  pub nonempty : 0 < length s
  pub container : IsContainer way S s r

-- the texts among ss that lie in r would take n units as records of their own
pub data SizeIn (way : Packing) (S : List (List ℕ)) (r : List ℕ) : List (List ℕ) → ℕ
    → Type 0 where
  size_none : SizeIn way S r [] 0
  size_here : {s : List ℕ} {ss : List (List ℕ)} {n : ℕ} → LiesIn way S s r → SizeIn way S r ss n
      → SizeIn way S r (s ∷ ss) (size s + n)
  size_elsewhere : {s : List ℕ} {ss : List (List ℕ)} {n : ℕ} → (LiesIn way S s r → ⊥)
      → SizeIn way S r ss n → SizeIn way S r (s ∷ ss) n

-- What the copies and suffixes that lie in r would take, beyond the one record; in a compact file
-- a record that another text of A ends with saves nothing.
abbrev pub Saved : Packing → (List ℕ → Type 0) → List (List ℕ) → List ℕ → ℕ → Type 0
Saved Plain A S r n = SizeIn Plain S r S (n + size r)
Saved Compact A S r n = (IsTop A r × SizeIn Compact S r S (n + size r))
    ⊎ ((IsTop A r → ⊥) × (n ≡ 0))

-- by the number of the text's own units, then by what is saved, the most first, then from the start
pub data Precedes (way : Packing) (A : List ℕ → Type 0) (S : List (List ℕ)) (r q : List ℕ)
    : Type 0 where
  fewer_units : length (units r) < length (units q) → Precedes way A S r q
  saves_more : (m n : ℕ) → length (units r) ≡ length (units q) → Saved way A S r m
      → Saved way A S q n → n < m → Precedes way A S r q
  smaller_text : (n : ℕ) → length (units r) ≡ length (units q) → Saved way A S r n
      → Saved way A S q n → start_cmp way r q ≡ Less → Precedes way A S r q

-- a record: the text's marker, its units, and 0
abbrev pub record_units : List ℕ → List ℕ
record_units r = marker r ++ (units r ++ 0 ∷ [])

-- the units are unit 0 and the records of the strings, each before those that it precedes
pub record IsPool (way : Packing) (A : List ℕ → Type 0) (S Q : List (List ℕ)) (us : List ℕ)
    : Type 0 where
  pub records : IsRecords S Q
  pub ordered : (k : ℕ) → k + 1 < length Q
      → Precedes way A S (slice_index_or Q k []) (slice_index_or Q (k + 1) [])
  pub units : us ≡ 0 ∷ flat_map record_units Q

-- the 0 that closes the record r stands at unit k; unit 0 stands before the first record
pub record ClosesAt (Q : List (List ℕ)) (r : List ℕ) (k : ℕ) : Type 0 where
  pub before : List (List ℕ)
  pub after : List (List ℕ)
  pub is : Q ≡ before ++ r ∷ after
  pub place : k ≡ sum_by size before + size r

-- The empty text stands at unit 0. Any other's marker and units end right before the 0 that closes
-- its record.
pub data Off (way : Packing) (S Q : List (List ℕ)) : List ℕ → ℕ → Type 0 where
  off_empty : Off way S Q [] 0
  off_within : {s r : List ℕ} {k c : ℕ} → LiesIn way S s r → ClosesAt Q r c
      → k + (length (marker s) + length (units s)) ≡ c → Off way S Q s k
