-- The offset of a zone at a moment.
use Rattle.std.specs.Prelude.{ℕ, ℤ, pos, ◌≡◌, ◌+◌, ◌-◌, ◌*◌, ◌<◌, ◌≤◌, ◌⊎◌, ◌≤ℤ◌, ◌<ℤ◌, ◌+ℤ◌}
use Rattle.std.specs.Prelude.{Option, Some, None, slice_index}
use Rattle.std.specs.Int.{cast_signed, w32}
use Rattle.resb.specs.Views.{pair_words}
use Rattle.resb_zoneinfo.specs.Civil.{year_start}
use Rattle.resb_zoneinfo.specs.Rules.{before_1970, IsFinalOffset}
use Rattle.resb_zoneinfo.specs.Transitions.{transition, transition_count}
use Rattle.resb_zoneinfo.specs.declared.zone.FinalYears.{FinalYears}
use Rattle.resb_zoneinfo.specs.declared.zone.Zone.{Zone}

-- the moment at which the final year begins by universal time, in seconds since 1970
abbrev pub final_begin : FinalYears → ℕ
final_begin f = 86400 * year_start f.year - before_1970

-- the offset of a type: that without what is saved, and what is saved
abbrev pub type_offset : Zone → ℕ → ℤ
type_offset z k =
    cast_signed w32 (slice_index (pair_words z.offsets) (2 * k))
    +ℤ cast_signed w32 (slice_index (pair_words z.offsets) (2 * k + 1))

-- the transitions from this number on come after the moment
abbrev pub ComeLater : Zone → ℤ → ℕ → Type 0
ComeLater z moment from =
    (k : ℕ) → from ≤ k → k < transition_count z.transitions → moment <ℤ transition z.transitions k

-- the last transition that has come at the moment
pub record IsLastCome (z : Zone) (moment : ℤ) (k : ℕ) : Type 0 where
  pub there : k < transition_count z.transitions
  pub come : transition z.transitions k ≤ℤ moment
  pub last : ComeLater z moment (k + 1)

-- the offset of the type of the last transition that has come, and of the first type before all
unfoldable pub IsPastOffset : Zone → ℤ → ℤ → Type 0
IsPastOffset z moment offset =
    ((k : ℕ) × IsLastCome z moment k × (offset ≡ type_offset z (slice_index z.types.now k)))
    ⊎ (ComeLater z moment 0 × (offset ≡ type_offset z 0))

-- the final year has begun at the moment, and the rule gives this offset
pub record IsInFinalYears (f : FinalYears) (moment offset : ℤ) : Type 0 where
  pub since : ℕ
  pub are : moment ≡ pos since
  pub begun : final_begin f ≤ since
  pub is : IsFinalOffset f.rule f.raw since offset

-- there are final years, the first has begun at the moment, and their rule gives this offset
abbrev pub IsFinal : Option FinalYears → ℤ → ℤ → Type 0
IsFinal (Some f) moment offset = IsInFinalYears f moment offset
IsFinal None moment offset = ⊥

-- there are no final years, or they begin later
abbrev pub IsBeforeFinal : Option FinalYears → ℤ → Type 0
IsBeforeFinal (Some f) moment = moment <ℤ pos (final_begin f)
IsBeforeFinal None moment = Unit {0}

-- from the final year on the offset is that of the rule, before it that of the transitions
abbrev pub IsOffset : Zone → ℤ → ℤ → Type 0
IsOffset z moment offset =
    IsFinal z.last moment offset ⊎ (IsBeforeFinal z.last moment × IsPastOffset z moment offset)
