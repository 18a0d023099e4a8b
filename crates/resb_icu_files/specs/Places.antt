-- Where a place of a new text stands in the text that it was made of.
use Rattle.std.specs.Prelude.{◌+◌, ◌-◌, ◌^◌, ℕ, List, nat_lt, if◌then◌else◌, min, fold}
use Rattle.resb_icu_files.specs.declared.taken.Change.{Change}

-- by one change: before it a place is what it is by the earlier ones; within what was written anew
-- it is where the change begins; behind it, as far behind its end
abbrev pub place_by : ℕ → ℕ → Change → ℕ
place_by place before c =
    if nat_lt place c.new_from then before
    else if nat_lt place c.new_to then c.from
    else min (c.to + (place - c.new_to)) (2 ^ 64 - 1)

-- the place by all changes, in order of place
abbrev pub place_before : List Change → ℕ → ℕ
place_before changes place = fold (place_by place) place changes
