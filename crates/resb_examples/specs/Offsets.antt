-- The offset of a zone at a moment: that of the last pair, in their order, that begins at most
-- there, else the base.
use Rattle.std.specs.Prelude.{◌≡◌, ◌+◌, ◌*◌, ◌/◌, ◌<◌, ◌≤◌, ◌⊎◌, ◌≤ℤ◌, ◌<ℤ◌, ℕ, ℤ, length}
use Rattle.std.specs.Prelude.{slice_index}
use Rattle.std.specs.Int.{cast_signed, w32}
use Rattle.resb.specs.Views.{pair_words}
use Rattle.resb_examples.specs.declared.zones.zone.Zone.{Zone}

-- how many pairs there are
abbrev pub pair_count : Zone → ℕ
pair_count z = length (pair_words z.pairs) / 2

-- from which moment the pair with this number holds, and its offset
abbrev pub pair_start : Zone → ℕ → ℤ
pair_start z k = cast_signed w32 (slice_index (pair_words z.pairs) (2 * k))

-- the offset of the pair with this number, in seconds
abbrev pub offset : Zone → ℕ → ℤ
offset z k = cast_signed w32 (slice_index (pair_words z.pairs) (2 * k + 1))

-- the pairs from this number on begin later
abbrev pub BeginLater : Zone → ℤ → ℕ → Type 0
BeginLater z moment from = (k : ℕ) → from ≤ k → k < pair_count z → moment <ℤ pair_start z k

-- the last pair that begins at most at the moment
pub record IsLastBegun (z : Zone) (moment : ℤ) (k : ℕ) : Type 0 where
  pub there : k < pair_count z
  pub begun : pair_start z k ≤ℤ moment
  pub last : BeginLater z moment (k + 1)

-- the offset of the last pair that begins at most at the moment, or the base where all pairs begin
-- later
abbrev pub IsOffset : Zone → ℤ → ℤ → Type 0
IsOffset z moment result =
    ((k : ℕ) × IsLastBegun z moment k × (result ≡ offset z k))
    ⊎ (BeginLater z moment 0 × (result ≡ z.base))
