-- Moments of 64 bits among words.
use Rattle.std.specs.Prelude.{ℕ, ℤ, ◌+◌, ◌*◌, ◌^◌, List, [], Option, Some, None, slice_index}
use Rattle.std.specs.Int.{cast_signed, w64}

-- the words of a view that may be left out, which has none then
abbrev pub words_or_none : Option (List ℕ) → List ℕ
words_or_none (Some words) = words
words_or_none None = []

-- a moment of 64 bits with a sign among words: the upper half first, then the lower one
abbrev pub long_moment : List ℕ → ℕ → ℤ
long_moment words k =
    cast_signed w64 (slice_index words (2 * k) * 2 ^ 32 + slice_index words (2 * k + 1))
