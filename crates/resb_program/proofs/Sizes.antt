-- A tree, or its keys, that take more than a limit.
use Rattle.std.proofs.Common.{ℕ, List, ◌≡◌, ◌≤◌, arith, Option, Ok, Bool, true, false, ◌↔◌}
use Rattle.resb_walk.specs.Pieces.{Piece}
use Rattle.resb_walk.specs.Sums.{fitting}
use Rattle.resb_read.specs.Measuring.{AnswersMeasureOf, IsMeasured}
use Rattle.resb_read.specs.Roots.{Whole}
use Rattle.resb_read.specs.declared.measuring.Measured.{Measured}
use Rattle.resb_program.specs.Files.{IsOver}

-- a sum that isn't within a limit is more
pub is_over : (sum : List Piece → ℕ) (w : Whole) (limit : ℕ) (m : Measured) (n : Option ℕ)
    (within : Bool) → AnswersMeasureOf w (Ok m)
    → ((xs : List Piece) → IsMeasured m xs → (within ≡ true) ↔ (sum xs ≤ limit))
    → ((xs : List Piece) → IsMeasured m xs → n ≡ fitting (sum xs)) → within ≡ false
    → IsOver sum w limit n
is_over sum w limit m n within (t, xs, d, fits, holds, is) test taken over = record {
  more = record {
    tree = t;
    count = m.resources;
    holding = xs;
    denotes = d;
    within = fits;
    holds = holds;
    more =
        let never : sum xs ≤ limit → ⊥ = λ h. absurd (cc ((test xs is).1 h)) in
        omega (arith, never);
  };
  said = taken xs is;
}
