-- Texts in suffix order. A text stands here as its characters, last first.
--     Extends t s             t begins with s, so that the text t ends with the text s
--     Before, NotAfter        what the order says of two texts
use Rattle.std.specs.Prelude.{◌≡◌, ℕ, List, ◌++◌}
use Rattle.std.specs.declared.cmp.Ordering.TheVariants.{Less, Greater}
use Rattle.resb_pool.specs.Order.{end_last_cmp}

pub record Extends (t s : List ℕ) : Type 0 where
  pub rest : List ℕ
  pub is : t ≡ s ++ rest

-- t stands before s, and not after it
abbrev pub Before : List ℕ → List ℕ → Type 0
Before t s = end_last_cmp t s ≡ Less

abbrev pub NotAfter : List ℕ → List ℕ → Type 0
NotAfter t s = end_last_cmp t s ≡ Greater → ⊥
