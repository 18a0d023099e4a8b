-- Marks of texts, which their last bytes tell.
--     last_mark n m s         the mark of the first n bytes of s, behind those that have the mark m
--     is_hit marks n m s      whether the mark of one, two or more of these bytes was noted
use Rattle.std.specs.Prelude.{ℕ, zero, suc, ◌+◌, ◌*◌, ◌%◌, List, [], ◌∷◌, Bool, false, ◌||◌}
use Rattle.std.specs.Prelude.{slice_index_or}

-- the mark of bytes and the byte before them
abbrev pub mark_with : ℕ → ℕ → ℕ
mark_with mark b = (mark * 31 + b) % 4096

-- the mark of the first n bytes of a text that is turned around
abbrev pub last_mark : ℕ → ℕ → List ℕ → ℕ
last_mark zero mark bs = mark
last_mark (suc n) mark [] = mark
last_mark (suc n) mark (b ∷ bs) = last_mark n (mark_with mark b) bs

-- whether the mark of one, two or more of its first n bytes was noted
abbrev pub is_hit : List Bool → ℕ → ℕ → List ℕ → Bool
is_hit marks zero mark bs = false
is_hit marks (suc n) mark [] = false
is_hit marks (suc n) mark (b ∷ bs) =
    slice_index_or marks (mark_with mark b) false || is_hit marks n (mark_with mark b) bs
