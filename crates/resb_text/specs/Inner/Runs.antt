-- What stands at a place, or nowhere from it on.
use Rattle.std.specs.Prelude.{◌≡◌, ℕ, ◌<◌, ◌≤◌, List, length, slice_index}

-- this byte stands there, and nowhere from here up to there
pub record FirstByte (b : ℕ) (text : List ℕ) (from to : ℕ) : Type 0 where
  pub order : from ≤ to
  pub inside : to < length text
  pub stands : slice_index text to ≡ b
  pub before : (k : ℕ) → from ≤ k → k < to → slice_index text k ≡ b → ⊥

-- this byte stands nowhere from here on
abbrev pub NoByte : ℕ → List ℕ → ℕ → Type 0
NoByte b text from = (k : ℕ) → from ≤ k → k < length text → slice_index text k ≡ b → ⊥
