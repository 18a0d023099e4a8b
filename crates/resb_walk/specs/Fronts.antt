-- Texts that are put behind others, as far as there is memory for them.
--     PutsFront old new text rest     all of the text but the rest was put behind what stood
use Rattle.std.specs.Prelude.{ℕ, List, ◌≡◌, ◌++◌}

-- behind the old bytes a front of a text was put, and the rest is what stands behind that front
abbrev pub PutsFront : List ℕ → List ℕ → List ℕ → List ℕ → Type 0
PutsFront old new text rest =
    (front : List ℕ) × (new ≡ old ++ front) × (front ++ rest ≡ text)
