-- Which day of a month a rule names.
use Rattle.std.specs.Prelude.{ℕ, ◌≡◌, ◌+◌, ◌-◌, ◌*◌, Bool, ◌&&◌, nat_lt, nat_le, min}
use Rattle.resb_zoneinfo.specs.Civil.{month_start, month_length, IsFirstOn, IsLastOn}
use Rattle.resb_zoneinfo.specs.declared.day.RuleDay.{RuleDay}
use Rattle.resb_zoneinfo.specs.declared.day.RuleDay.TheVariants.{Number, Nth, NthLast, From, UpTo}

-- a number from 1 up to a limit
abbrev pub is_from_one : ℕ → ℕ → Bool
is_from_one limit n = nat_le 1 n && nat_le n limit

-- days go from 1 to 31, weekdays from 0 to 6, and a month has at most five of a weekday
abbrev pub is_real : RuleDay → Bool
is_real (Number n) = is_from_one 31 n
is_real (Nth n w) = is_from_one 5 n && nat_lt w 7
is_real (NthLast n w) = is_from_one 5 n && nat_lt w 7
is_real (From n w) = is_from_one 31 n && nat_lt w 7
is_real (UpTo n w) = is_from_one 31 n && nat_lt w 7

-- the day of this number in a month, or its last where the month is shorter
abbrev pub day_numbered : ℕ → ℕ → ℕ → ℕ
day_numbered y m n = month_start y m + min n (month_length y m) - 1

-- in this month of this year a rule's day is the day d:
-- the one of its number; the first of its weekday, weeks after the month's first day; the last of
-- its weekday, weeks before the month's last day; the first of its weekday from a number on; the
-- last of its weekday up to a number
abbrev pub IsRuleDay : RuleDay → ℕ → ℕ → ℕ → Type 0
IsRuleDay (Number n) y m d = d ≡ day_numbered y m n
IsRuleDay (Nth n w) y m d = IsFirstOn (month_start y m + 7 * (n - 1)) w d
IsRuleDay (NthLast n w) y m d =
    IsLastOn (month_start y m + month_length y m - 1 - 7 * (n - 1)) w d
IsRuleDay (From n w) y m d = IsFirstOn (day_numbered y m n) w d
IsRuleDay (UpTo n w) y m d = IsLastOn (day_numbered y m n) w d
