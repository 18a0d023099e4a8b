-- Surrogates by neighbours.
--     AreLinked us i j        of the units from i up to j each two neighbours are a pair, or the
--                             first begins none and the second ends none
--     break_count us i n      how many of the n units from i on don't so join the one behind them
--     AreCounted us ns        ns has how many breaks stand before each 64th unit
--     IsWellFormed us         each surrogate has its partner
use Rattle.std.specs.Prelude.{◌≡◌, ℕ, zero, suc, ◌+◌, ◌-◌, ◌*◌, ◌<◌, ◌≤◌, List, length, slice_index}
use Rattle.std.specs.Prelude.{false, if◌then◌else◌}
use Rattle.std.specs.Char.Utf16.{is_high_surrogate, is_low_surrogate, has_unpaired_surrogate}

-- from i up to j, a unit begins a pair exactly where the next one ends one
abbrev pub AreLinked : List ℕ → ℕ → ℕ → Type 0
AreLinked us i j =
    (k : ℕ) → i ≤ k → k + 1 < j
    → is_high_surrogate (slice_index us k) ≡ is_low_surrogate (slice_index us (k + 1))

-- 1 where the unit u begins a pair that v doesn't end, or v ends one that u doesn't begin; else 0
abbrev pub break_of : ℕ → ℕ → ℕ
break_of u v =
    if is_high_surrogate u then (if is_low_surrogate v then 0 else 1)
    else (if is_low_surrogate v then 1 else 0)

-- the same of the kth unit and the one behind it
abbrev pub break_at : List ℕ → ℕ → ℕ
break_at us k = break_of (slice_index us k) (slice_index us (k + 1))

-- how many of the n units from i on break from the one behind them
unfoldable pub break_count : List ℕ → ℕ → ℕ → ℕ
break_count us i zero = 0
break_count us i (suc n) = break_count us i n + break_at us (i + n)

-- the list has how many breaks stand before each 64th unit, from the first unit on
abbrev pub AreCounted : List ℕ → List ℕ → Type 0
AreCounted us ns =
    (k : ℕ) → k < length ns → slice_index ns k ≡ break_count us 0 (64 * k)

-- no surrogate lacks its partner
abbrev pub IsWellFormed : List ℕ → Type 0
IsWellFormed us = has_unpaired_surrogate us ≡ false

-- a text, by its two ends and the neighbours between them
abbrev pub IsLinkedText : List ℕ → Type 0
IsLinkedText us =
    (is_low_surrogate (slice_index us 0) ≡ false)
    × (is_high_surrogate (slice_index us (length us - 1)) ≡ false) × AreLinked us 0 (length us)
