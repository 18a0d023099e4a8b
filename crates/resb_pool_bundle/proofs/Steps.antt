-- Lists of checks, of which the first ones hold or not.
use Rattle.std.proofs.Common.{List, [], ◌∷◌, ◌++◌, ◌≡◌, Bool, true, false, Some, None, refl}
use Rattle.resb_format.specs.Error.{Refusal, first_refusal}

-- checks of which the first ones hold, or not
pub later_refusal : (xs ys : List (Bool × Refusal)) → first_refusal xs ≡ None
    → first_refusal (xs ++ ys) ≡ first_refusal ys
later_refusal [] ys e = refl
later_refusal ((true, f) ∷ xs) ys e = later_refusal xs ys e
later_refusal ((false, f) ∷ xs) ys e = cc

pub earlier_refusal : (xs ys : List (Bool × Refusal)) (f : Refusal) → first_refusal xs ≡ Some f
    → first_refusal (xs ++ ys) ≡ Some f
earlier_refusal [] ys f e = cc
earlier_refusal ((true, g) ∷ xs) ys f e = earlier_refusal xs ys f e
earlier_refusal ((false, g) ∷ xs) ys f e = e
