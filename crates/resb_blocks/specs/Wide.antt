-- How many bytes of UTF-8 units take.
--     width_of u              of one unit
--     text_width us           of a list of units
--     AreSummed us ns         ns has how many the units before each 64th unit take
use Rattle.std.specs.Prelude.{◌≡◌, ℕ, ◌*◌, ◌<◌, ◌||◌, List, length, take, slice_index, sum_by}
use Rattle.std.specs.Prelude.{if◌then◌else◌}
use Rattle.std.specs.Char.{len_utf8}
use Rattle.std.specs.Char.Utf16.{is_high_surrogate, is_low_surrogate}

-- 2 for each half of a pair, whose character takes 4; else those of the character that the unit is
abbrev pub width_of : ℕ → ℕ
width_of u = if is_high_surrogate u || is_low_surrogate u then 2 else len_utf8 u

-- the sum of the units' bytes
abbrev pub text_width : List ℕ → ℕ
text_width us = sum_by width_of us

-- the list has how many bytes the units before each 64th unit take, from the first unit on
abbrev pub AreSummed : List ℕ → List ℕ → Type 0
AreSummed us ns = (k : ℕ) → k < length ns → slice_index ns k ≡ text_width (take (64 * k) us)
