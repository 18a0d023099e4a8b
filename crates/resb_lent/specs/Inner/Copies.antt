-- Copies of strings, which go by their numbers.
--     IsCopy S i k            the string of number k is that of number i, and not behind it
--     AreCopies S cs          cs has such a number for each string
use Rattle.std.specs.Prelude.{◌≡◌, ℕ, ◌<◌, ◌≤◌, List, [], length, slice_index, slice_index_or}

pub record IsCopy (S : List (List ℕ)) (i k : ℕ) : Type 0 where
  pub reaches : k ≤ i
  pub same : slice_index_or S k [] ≡ slice_index_or S i []

pub record AreCopies (S : List (List ℕ)) (cs : List ℕ) : Type 0 where
  pub len : length cs ≡ length S
  pub each : (i : ℕ) → i < length S → IsCopy S i (slice_index cs i)
