-- The moments at which a zone's offset changed, by their numbers.
use Rattle.std.specs.Prelude.{ℕ, ℤ, ◌≡◌, ◌+◌, ◌-◌, ◌/◌, ◌%◌, List, length, option_map, slice_index}
use Rattle.std.specs.Prelude.{if◌then◌else◌, nat_lt}
use Rattle.std.specs.Int.{cast_signed, w32}
use Rattle.resb.specs.Views.{view_words, number_words}
use Rattle.resb_zoneinfo.specs.LongMoments.{words_or_none, long_moment}
use Rattle.resb_zoneinfo.specs.declared.transitions.Transitions.{Transitions}

-- the words of the moments before the range of 32 bits
abbrev pub early : Transitions → List ℕ
early t = words_or_none (option_map view_words t.before32)

-- the words of the moments within the range of 32 bits
abbrev pub middle : Transitions → List ℕ
middle t = words_or_none (option_map number_words t.within32)

-- the words of the moments after the range of 32 bits
abbrev pub late : Transitions → List ℕ
late t = words_or_none (option_map view_words t.after32)

-- how many moments there are: two words for each outside of the range of 32 bits, one within
abbrev pub transition_count : Transitions → ℕ
transition_count t = length (early t) / 2 + length (middle t) + length (late t) / 2

-- there are so many moments, and no word is left over
pub record HasTransitions (t : Transitions) (count : ℕ) : Type 0 where
  pub early_even : length (early t) % 2 ≡ 0
  pub late_even : length (late t) % 2 ≡ 0
  pub are : transition_count t ≡ count

-- the moment with this number behind those before the range of 32 bits
abbrev pub later_transition : Transitions → ℕ → ℤ
later_transition t k =
    if nat_lt k (length (middle t)) then cast_signed w32 (slice_index (middle t) k)
    else long_moment (late t) (k - length (middle t))

-- the moment with this number, in seconds since 1970
unfoldable pub transition : Transitions → ℕ → ℤ
transition t k =
    if nat_lt k (length (early t) / 2) then long_moment (early t) k
    else later_transition t (k - length (early t) / 2)
