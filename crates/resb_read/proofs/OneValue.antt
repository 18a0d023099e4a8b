-- At a place stands one value of each type without parts, and one tree.
use Rattle.std.proofs.Common.{ℕ, ◌≡◌, ◌≤◌, Option, sym, ap, ◌∙◌}
use Rattle.std.specs.Prelude.{◌%◌, length}
use Rattle.std.proofs.lemmas.Option.{same_Some}
use Rattle.resb_read.specs.Laws.{OneValue}
use Rattle.resb_read.specs.Leaves.{LiesInRange, signed_at, unsigned_at, bool_at, bits_at, text_from}
use Rattle.resb_read.specs.Leaves.{key_from, bytes_from}
use Rattle.resb_read.specs.Reading.{any, IsThere}
use Rattle.resb_read.specs.TypeLaws.{one_tree_at}

there_same : {X : Type 0} (fits : X → Type 0) (there : Option (X × ℕ)) (x y : X) (m n : ℕ)
    → IsThere fits there x m → IsThere fits there y n → x ≡ y
there_same fits there x y m n h k = ap (λ r. r.0) (same_Some _ _ (sym h.1 ∙ k.1))

pub one_value : OneValue
one_value = (
  λ low high p. there_same (LiesInRange low high) (signed_at p.at),
  λ high p. there_same (λ x. x ≤ high) (unsigned_at p.at),
  λ p. there_same any (bool_at p.at),
  λ p. there_same any (bits_at p.at),
  λ p. there_same any (text_from p.parts p.at),
  λ p. there_same any (key_from p.parts p.at),
  λ p. there_same any (bytes_from p.parts p.at),
  λ each p. there_same (λ b. length b % each ≡ 0) (bytes_from p.parts p.at),
  λ p t u m n h k. (one_tree_at p.parts p.at t u m n h k).0,
)
