-- The turns of a reading.
use Rattle.std.specs.Prelude.{◌+◌, ◌*◌, ◌≤◌, ℕ, List, length}
use Rattle.resb_icu_text.specs.Inner.Reach.{reach}
use Rattle.resb_icu_text.specs.declared.turns.IcuTurns.{IcuTurns}

-- a reading stops: no more turns are counted than 8 for each byte that was left to be looked at,
-- and so many more
abbrev pub Halts : List ℕ → ℕ → ℕ → IcuTurns → IcuTurns → Type 0
Halts text more at t u = u.count + 8 * reach text at ≤ t.count + 8 * length text + more
