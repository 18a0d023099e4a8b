-- When in a year clocks change, and what five numbers of a file say of it.
use Rattle.std.specs.Prelude.{ℕ, ℤ, pos, ◌≡◌, ◌+◌, ◌*◌, ◌+ℤ◌, List, slice_index}
use Rattle.std.specs.Prelude.{Option, Some, None, if◌then◌else◌}
use Rattle.std.specs.Option.{option_or}
use Rattle.std.specs.Int.RustNames.{unsigned_abs}
use Rattle.std.specs.Int.{cast_signed, w32}
use Rattle.resb_zoneinfo.specs.RuleDays.{IsRuleDay}
use Rattle.resb_zoneinfo.specs.Numbers.{is_within, SaysDay, day_fault}
use Rattle.resb_zoneinfo.specs.declared.edge.Clock.{Clock}
use Rattle.resb_zoneinfo.specs.declared.edge.Clock.TheVariants.{Wall, Standard, Universal}
use Rattle.resb_zoneinfo.specs.declared.edge.Edge.{Edge}
use Rattle.resb_zoneinfo.specs.declared.numbers.RuleError.{RuleError}
use Rattle.resb_zoneinfo.specs.declared.numbers.RuleError.TheVariants as error

-- what the clock of a change shows then in a year: the seconds before its day, and those of its
-- time
pub record IsTimeIn (e : Edge) (year time : ℕ) : Type 0 where
  pub day : ℕ
  pub day_is : IsRuleDay e.day year e.month day
  pub time_is : time ≡ 86400 * day + e.seconds

-- the clock of standard time shows that of universal time and the zone's offset
abbrev pub IsStandard : ℕ → ℤ → ℕ → Type 0
IsStandard universal raw standard = pos standard ≡ pos universal +ℤ raw

-- the clock on the wall shows standard time and what it is ahead, the others what they are for
abbrev pub clock_reading : Clock → ℕ → ℕ → ℕ → ℕ
clock_reading Wall standard universal ahead = standard + ahead
clock_reading Standard standard universal ahead = standard
clock_reading Universal standard universal ahead = universal

-- the numbers of the clocks: 0 for the wall's, 1 for standard time, 2 for universal time
abbrev pub clock_number : Clock → ℤ
clock_number Wall = pos 0
clock_number Standard = pos 1
clock_number Universal = pos 2

-- five numbers say a change: its month from 0 on, its day and weekday, its seconds and its clock
pub record SaysEdge (month day weekday time clock : ℤ) (e : Edge) : Type 0 where
  pub month_is : month ≡ pos e.month
  pub day_is : SaysDay day weekday e.day
  pub time_is : time ≡ pos e.seconds
  pub clock_is : clock ≡ clock_number e.clock

-- the first fault of a time and a clock: the time is beyond a day, or else the clock beyond 2
abbrev pub time_fault : ℤ → ℤ → Option RuleError
time_fault time clock =
    if is_within 86400 time then (if is_within 2 clock then None else Some error.Clock)
    else Some error.Time

-- the first fault of five numbers that are to say a change: the month is beyond 11; or else one of
-- weekday and day; or else one of time and clock
abbrev pub edge_fault : ℤ → ℤ → ℤ → ℤ → ℤ → Option RuleError
edge_fault month day weekday time clock =
    if is_within 11 month
    then option_or (day_fault (unsigned_abs month) day weekday) (time_fault time clock)
    else Some error.Month

-- the number at a place among words
abbrev pub signed_word : List ℕ → ℕ → ℤ
signed_word words k = cast_signed w32 (slice_index words k)

-- five numbers from a place on say a change
abbrev pub SaysEdgeAt : List ℕ → ℕ → Edge → Type 0
SaysEdgeAt v k =
    SaysEdge (signed_word v k) (signed_word v (k + 1)) (signed_word v (k + 2))
    (signed_word v (k + 3))
    (signed_word v (k + 4))

-- the first fault of the five numbers from a place on
abbrev pub edge_fault_at : List ℕ → ℕ → Option RuleError
edge_fault_at v k =
    edge_fault (signed_word v k) (signed_word v (k + 1)) (signed_word v (k + 2))
    (signed_word v (k + 3)) (signed_word v (k + 4))
