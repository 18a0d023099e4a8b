-- Strings beside a pool: those that it has, and those that it lacks, one by one.
use Rattle.std.proofs.Common.{◌≡◌, ℕ, ◌*◌, ◌/◌, ◌<◌, ◌≤◌, List, [], ◌∷◌, ◌++◌}
use Rattle.std.proofs.Common.{max, Option, Some, None, refl, arith}
use Rattle.std.proofs.Math.Nat.{div-le_of_le-mul}
use Rattle.resb_pool.specs.declared.packing.Packing.{Packing}
use Rattle.resb_lent.specs.LentBeside.{LendsTextBy}
use Rattle.resb_lent.specs.PlanWithPool.{AreLentBy, lent_none, lent_more, lacking, given, limit_of}

-- one answer more at the end
pub lent_push : (way : Packing) (block : List ℕ) (A ss : List (List ℕ)) (os : List (Option ℕ))
    (s : List ℕ) (o : Option ℕ) → AreLentBy way block A ss os → LendsTextBy way block A s o
    → AreLentBy way block A (ss ++ s ∷ []) (os ++ o ∷ [])
lent_push way block A [] [] s o lent_none h = lent_more h lent_none
lent_push way block A [] (p ∷ os) s o x h = elim x [ ]
lent_push way block A (t ∷ ss) [] s o x h = elim x [ ]
lent_push way block A (t ∷ ss) (p ∷ os) s o (lent_more k more) h =
    lent_more k (lent_push way block A ss os s o more h)

-- the first text apart from the others
pub lacking_more : (s : List ℕ) (ss : List (List ℕ)) (o : Option ℕ) (os : List (Option ℕ))
    → lacking (s ∷ ss) (o ∷ os) ≡ lacking (s ∷ []) (o ∷ []) ++ lacking ss os
lacking_more s ss (Some i) os = refl
lacking_more s ss None os = refl

pub lacking_none : (ss : List (List ℕ)) → lacking ss [] ≡ []
lacking_none [] = refl
lacking_none (s ∷ ss) = refl

pub limit_more : (o : Option ℕ) (os : List (Option ℕ))
    → limit_of (given (o ∷ os)) ≡ max (limit_of (given (o ∷ []))) (limit_of (given os))
limit_more (Some i) os = omega arith
limit_more None os = omega arith

-- a quotient of a share
pub share_fits : (a m : ℕ) → 0 < m → a ≤ m → a * 65535 / m ≤ 65535
share_fits a m some h = div-le_of_le-mul m (omega (arith, h))
