-- Which of a file's strings other texts end with, which a plan of them has to know.
--     AreEnded way A S es     es tell which tops of S are no tops of A
use Rattle.std.specs.Prelude.{◌≡◌, ℕ, ◌<◌, List, [], length, ◌⊎◌, Contains, slice_index_or}
use Rattle.resb_pool.specs.Container.{IsTop}
use Rattle.resb_pool.specs.declared.packing.Packing.{Packing}
use Rattle.resb_pool.specs.declared.packing.Packing.TheVariants.{Plain, Compact}

-- The texts A are those of S and others. Of the strings that are tops of S, es has the numbers of
-- just those that are no tops of A; it may have numbers of other strings too.
pub record AreEndedAmong (A S : List (List ℕ)) (es : List ℕ) : Type 0 where
  pub covers : (s : List ℕ) → Contains S s → Contains A s
  pub each : (i : ℕ) → i < length S → IsTop (Contains S) (slice_index_or S i [])
      → (IsTop (Contains A) (slice_index_or S i []) × (Contains es i → ⊥))
      ⊎ ((IsTop (Contains A) (slice_index_or S i []) → ⊥) × Contains es i)

-- so it is for a compact file; for a plain one no numbers are given
abbrev pub AreEnded : Packing → List (List ℕ) → List (List ℕ) → List ℕ → Type 0
AreEnded Plain A S es = es ≡ []
AreEnded Compact A S es = AreEndedAmong A S es
