-- Copies of earlier strings stand alike, and the pool has the same of them.
use Rattle.std.proofs.Common.{◌≡◌, ℕ, zero, suc, ◌<◌, List, [], ◌∷◌, Bor, length}
use Rattle.std.proofs.Common.{get_or, take, Option, Some, None, sym, ◌∙◌, ap, subst, arith}
use Rattle.std.specs.Prelude.{slice_get}
use Rattle.std.proofs.lemmas.List.{get_or-map, length-map, get_or-take, length-take-le}
use Rattle.resb_pool.specs.Plan.{nows}
use Rattle.resb_pool.specs.declared.packing.Packing.{Packing}
use Rattle.resb_pool.proofs.TextLoops.{blank}
use Rattle.resb_lent.specs.LentBeside.{LendsTextBy}
use Rattle.resb_lent.specs.PlanWithPool.{AreLentBy, lent_none, lent_more}
use Rattle.resb_lent.specs.Inner.Copies.{AreCopies}
use Rattle.resb_lent.specs.Inner.LentEndings.{StandsAs, AreStandings, standing_none, standing_more}
use Rattle.resb_lent.specs.declared.texts.Standing.{Standing}

-- an earlier copy is the string
pub copy_is : (xs : List (Bor (List ℕ))) (cs : List ℕ) → AreCopies (nows xs) cs → (i : ℕ)
    → i < length xs → (k : ℕ) → k ≡ get_or cs i 0 → k < length (nows (take i xs))
    → get_or (nows (take i xs)) k [] ≡ (get_or xs i blank).now
copy_is xs cs h i l k e m =
    let first = λ (y : Bor (List ℕ)). y.now in
    let n : k < i = omega (
      arith,
      m,
      length-map (take i xs) first,
      length-take-le i xs (omega (arith, l)),
    ) in
    let there : k < length (take i xs) = omega (arith, m, length-map (take i xs) first) in
    get_or-map first (take i xs) k blank [] there
    ∙ ap (λ (y : Bor (List ℕ)). y.now) (get_or-take i xs k blank n)
    ∙ sym (get_or-map first xs k blank [] (omega (arith, n, l)))
    ∙ ap (λ z. get_or (nows xs) z []) e
    ∙ (h.each i (omega (arith, l, length-map xs first))).same
    ∙ get_or-map first xs i blank [] l

-- how an earlier string stands
pub stood : (block : List ℕ) (S : List (List ℕ)) (ds : List Standing) → AreStandings block S ds
    → (k : ℕ) → k < length ds → (d : Standing)
    → (k < length S) × StandsAs block (get_or S k []) (get_or ds k d)
stood block [] [] standing_none k l d = absurd (omega (arith, l))
stood block (s ∷ S) (f ∷ ds) (standing_more x more) zero l d = (omega arith, x)
stood block (s ∷ S) (f ∷ ds) (standing_more x more) (suc k) l d =
    let r = stood block S ds more k (omega (arith, l)) d in (omega (arith, r.0), r.1)
stood block [] (f ∷ ds) x k l d = elim x [ ]
stood block (s ∷ S) [] x k l d = elim x [ ]

-- what the pool has of an earlier string
pub lent_at : (way : Packing) (block : List ℕ) (A S : List (List ℕ)) (os : List (Option ℕ))
    → AreLentBy way block A S os → (k : ℕ) (o : Option ℕ) → slice_get os k ≡ Some o
    → (k < length S) × LendsTextBy way block A (get_or S k []) o
lent_at way block A [] [] lent_none k o e = absurd (let z : None ≡ Some o = e in cc)
lent_at way block A (s ∷ S) (p ∷ os) (lent_more x more) zero o e =
    let q : p ≡ o = cc in (omega arith, subst (LendsTextBy way block A s) q x)
lent_at way block A (s ∷ S) (p ∷ os) (lent_more x more) (suc k) o e =
    let r = lent_at way block A S os more k o e in (omega (arith, r.0), r.1)
lent_at way block A [] (p ∷ os) x k o e = elim x [ ]
lent_at way block A (s ∷ S) [] x k o e = elim x [ ]
