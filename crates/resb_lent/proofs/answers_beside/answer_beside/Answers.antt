use Rattle.std.proofs.Common.{◌≡◌, ◌<◌, ℕ, List, length, arith}
use Rattle.std.proofs.lemmas.Bool.Decides.{nat_tests}
use Rattle.resb_lent.specs.LentBeside.{LentBeside, beside_empty, beside_within}
use Rattle.resb_lent.specs.Inner.LentEndings.{IsLentEnd}
use Rattle.resb_lent.proofs.Lying.{ends_of}
use Rattle.resb_lent.proofs.Others.{lends_to}
use Rattle.resb_lent.proofs.Together.{empty_beside, in_own}
use Rattle.resb_lent.proofs.answers_beside.answer_beside.Goals as goal

-- what lies in the pool ends a text of it
lent_ends : (block : List ℕ) (S : List (List ℕ)) (s : List ℕ) (i : ℕ) → 0 < length s
    → LentBeside block S s i → IsLentEnd block s
lent_ends block S s i full (beside_empty b) = absurd (omega (arith, full))
lent_ends block S s i full (beside_within {r = r} {at = at} some lies e) =
    (r, (at, lies.own), ends_of r s lies.holds)

pub returns-then-is_empty : goal.returns-then-is_empty
returns-then-is_empty c = λ block S O h u v g x k.
    let none : length c.args.text.now ≡ 0 = grind (arith, nat_tests, c.if-is_empty.ensures) in
    empty_beside block S c.args.text.now c.index.result none (c.index.ensures block h)

pub returns-in-Whole : goal.returns-in-Whole
returns-in-Whole c = λ block S O h u v g x k.
    let full : 0 < length c.args.text.now = grind (arith, nat_tests, c.if-is_empty.ensures) in
    in_own c.args.lent.now block h S u c.args.text.now full g c.in-Whole.index
    (rw c.in-Whole.is at x)

pub returns-in-End : goal.returns-in-End
returns-in-End c = λ block S O h u v g x k.
    let s = c.args.text.now in
    let full : 0 < length s = grind (arith, nat_tests, c.if-is_empty.ensures) in
    let ends = rw c.in-End.is at x in
    let y = k c.in-End.is full in
    lends_to block S O s y.others full c.place_in_top.result
    (c.place_in_top.ensures block O h v y.given full ends.0 y.container)

pub returns-in-Apart : goal.returns-in-Apart
returns-in-Apart c = λ block S O h u v g x k.
    let s = c.args.text.now in
    let full : 0 < length s = grind (arith, nat_tests, c.if-is_empty.ensures) in
    let apart = rw c.in-Apart.is at x in
    λ i b. apart (lent_ends block S s i full b)
