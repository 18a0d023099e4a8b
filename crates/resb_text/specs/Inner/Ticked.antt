-- What is counted.
use Rattle.std.specs.Prelude.{◌≡◌, ℕ, ◌+◌, ◌*◌, ◌%◌, ◌^◌, ◌<◌, ◌≤◌, List, length}
use Rattle.resb_grammar.specs.Inner.Reach.{reach}
use Rattle.resb_text.specs.declared.ticks.Ticks.{Ticks}

-- so many turns were counted, modulo 2 ^ 64
abbrev pub Ticked : Ticks → Ticks → ℕ → Type 0
Ticked before after turns = after.count ≡ (before.count + turns) % 2 ^ 64

-- a reading goes on from one place to another: fewer turns are counted than 8 for each byte that it
-- has looked at since, by so many at least
abbrev pub Proceeds : List ℕ → ℕ → ℕ → Ticks → ℕ → Ticks → Type 0
Proceeds text spare at t to u =
    (at < to) × (to ≤ length text)
    × (u.count + 8 * reach text at + spare ≤ t.count + 8 * reach text to)

-- a reading ends: no more turns are counted than 8 for each byte that was left to be looked at, and
-- so many more
abbrev pub Halts : List ℕ → ℕ → ℕ → Ticks → Ticks → Type 0
Halts text more at t u = u.count + 8 * reach text at ≤ t.count + 8 * length text + more
