-- What the numbers of a file say of a day that a rule names, and why they say none.
use Rattle.std.specs.Prelude.{ℕ, ℤ, pos, neg_ℤ, ◌≡◌, ◌+◌, ◌<◌, Bool, ◌&&◌, not}
use Rattle.std.specs.Prelude.{nat_lt, nat_le, nat_eq, Option, Some, None, if◌then◌else◌}
use Rattle.std.specs.Int.RustNames.{unsigned_abs}
use Rattle.std.specs.Int.Signed.{lt_z}
use Rattle.resb_zoneinfo.specs.Civil.{month_length}
use Rattle.resb_zoneinfo.specs.declared.day.RuleDay.{RuleDay}
use Rattle.resb_zoneinfo.specs.declared.day.RuleDay.TheVariants.{Number, Nth, NthLast, From, UpTo}
use Rattle.resb_zoneinfo.specs.declared.numbers.RuleError.{RuleError}
use Rattle.resb_zoneinfo.specs.declared.numbers.RuleError.TheVariants.{Weekday, Day}
use Rattle.resb_zoneinfo.specs.declared.numbers.Signed.{Signed}
use Rattle.resb_zoneinfo.specs.declared.numbers.Signed.TheVariants.{Up, Down}

-- a number is from 0 up to a limit
abbrev pub is_within : ℕ → ℤ → Bool
is_within limit x = not (lt_z x (pos 0)) && nat_le (unsigned_abs x) limit

-- a number is n, or it is minus n, which is not 0
abbrev pub IsSigned : ℤ → Signed → Type 0
IsSigned x (Up n) = x ≡ pos n
IsSigned x (Down n) = (x ≡ neg_ℤ (pos n)) × (0 < n)

-- a day and a weekday say: with weekday 0 the day's number; with a weekday from 1 on, which is
-- Sunday, the first, second .. of it, or the last for a day below 0; with the weekday below 0 the
-- first of it from a number on, or the last up to it for a day below 0
abbrev pub SaysDay : ℤ → ℤ → RuleDay → Type 0
SaysDay day weekday (Number n) = (weekday ≡ pos 0) × (day ≡ pos n)
SaysDay day weekday (Nth n w) = (weekday ≡ pos (w + 1)) × (day ≡ pos n)
SaysDay day weekday (NthLast n w) = (weekday ≡ pos (w + 1)) × (day ≡ neg_ℤ (pos n))
SaysDay day weekday (From n w) = (weekday ≡ neg_ℤ (pos (w + 1))) × (day ≡ pos n)
SaysDay day weekday (UpTo n w) = (weekday ≡ neg_ℤ (pos (w + 1))) × (day ≡ neg_ℤ (pos n))

-- up to which number a day may go: the fifth of a weekday, or the length of the month, in which
-- February has 29 days
abbrev pub day_limit : ℕ → ℤ → ℕ
day_limit month weekday = if lt_z (pos 0) weekday then 5 else month_length 0 month

-- a day is from 1 up to its limit, counted from the month's end where it is below 0; without a
-- weekday it isn't below 0
abbrev pub is_day : ℕ → ℤ → ℤ → Bool
is_day month day weekday =
    nat_le 1 (unsigned_abs day) && nat_le (unsigned_abs day) (day_limit month weekday)
    && not (nat_eq (unsigned_abs weekday) 0 && lt_z day (pos 0))

-- the first fault of a day and a weekday in a month: the weekday is beyond 7, or else the day is
-- none
abbrev pub day_fault : ℕ → ℤ → ℤ → Option RuleError
day_fault month day weekday =
    if nat_lt 7 (unsigned_abs weekday) then Some Weekday
    else if is_day month day weekday then None
    else Some Day
