-- Days by their numbers, counted from the first of January of the year 0, and the years, months
-- and weekdays that they lie in.
use Rattle.std.specs.Prelude.{ℕ, ◌≡◌, ◌<◌, ◌≤◌, ◌+◌, ◌-◌, ◌*◌, ◌/◌, ◌%◌, ◌==◌, Bool, ◌&&◌, ◌||◌}
use Rattle.std.specs.Prelude.{if◌then◌else◌, not, [], ◌∷◌, slice_index, nat_lt}

-- a year is a leap year if 4 divides it, unless 100 divides it and 400 does not
abbrev pub is_leap : ℕ → Bool
is_leap y = (y % 4 == 0) && (not (y % 100 == 0) || (y % 400 == 0))

-- the number of a year's first day: 365 for each year before it, and one more for each of these
-- that 4 divides, but those that 100 divides and 400 does not
abbrev pub year_start : ℕ → ℕ
year_start y = 365 * y + (y + 3) / 4 + (y + 399) / 400 - (y + 99) / 100

-- the day lies in the year: not before its first day, and before that of the next year
pub record IsInYear (day year : ℕ) : Type 0 where
  pub begun : year_start year ≤ day
  pub not_over : day < year_start (year + 1)

-- how many days a year has
abbrev pub year_length : ℕ → ℕ
year_length y = if is_leap y then 366 else 365

-- the next year begins behind the last day of this one
abbrev pub LeapYears : Type 0
LeapYears = (y : ℕ) → year_start (y + 1) ≡ year_start y + year_length y

-- how many days of a year that is no leap year stand before a month, where 0 is January
abbrev pub days_before : ℕ → ℕ
days_before m =
    slice_index (0 ∷ 31 ∷ 59 ∷ 90 ∷ 120 ∷ 151 ∷ 181 ∷ 212 ∷ 243 ∷ 273 ∷ 304 ∷ 334 ∷ []) m

-- the number of a month's first day: behind February a leap year has one day more
abbrev pub month_start : ℕ → ℕ → ℕ
month_start y m = year_start y + days_before m + (if nat_lt 1 m && is_leap y then 1 else 0)

-- how many days a month has, where 0 is January and 1 February
abbrev pub month_length : ℕ → ℕ → ℕ
month_length y m =
    if m == 1 then (if is_leap y then 29 else 28)
    else (if m == 3 || (m == 5 || (m == 8 || m == 10)) then 30 else 31)

-- a month begins behind the last day of the one before, and January with its year
abbrev pub MonthsFollow : Type 0
MonthsFollow =
    (y : ℕ) → (month_start y 0 ≡ year_start y)
    × ((m : ℕ) → m < 11 → month_start y (m + 1) ≡ month_start y m + month_length y m)
    × (month_start y 11 + month_length y 11 ≡ year_start (y + 1))

-- the weekday of a day, where 0 is Sunday: the first day of the year 0 is a Saturday
abbrev pub weekday_of : ℕ → ℕ
weekday_of d = (d + 6) % 7

-- the first day of a weekday that is not before the given one
pub record IsFirstOn (day weekday found : ℕ) : Type 0 where
  pub same : weekday_of found ≡ weekday
  pub reached : day ≤ found
  pub first : found < day + 7

-- the last day of a weekday that is not after the given one
pub record IsLastOn (day weekday found : ℕ) : Type 0 where
  pub same : weekday_of found ≡ weekday
  pub reached : found ≤ day
  pub last : day < found + 7
