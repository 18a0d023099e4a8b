use Rattle.std.proofs.Common.{arith, ◌≡◌, ◌+◌, ◌-◌, ◌<◌, length, ap, sym}
use Rattle.std.proofs.lemmas.Bool.Decides.{nat_tests}
use Rattle.resb_lent.proofs.Lying.{no_index, has_index}
use Rattle.resb_lent.proofs.Sorting.{empty_index}
use Rattle.resb_lent.proofs.texts.LentTexts.index.Goals as goal

pub returns-then-self : goal.returns-then-self
returns-then-self c = λ block h.
    empty_index c.args.self.now block c.args.text.now h c.if-self.true (sym c.if-is_empty.ensures)

pub returns-then-count-eq0 : goal.returns-then-count-eq0
returns-then-count-eq0 c = λ block h.
    let full : 0 < length c.args.text.now = grind (arith, nat_tests, c.if-is_empty.ensures) in
    no_index c.args.self.now block h c.args.text.now c.utf8.text c.count_up_to-count.result
    (rw c.deref.ensures.value at c.count_up_to-count.ensures.behind) c.if-count-eq0.true full

pub returns : goal.returns
returns c = λ block h.
    let s = c.args.text.now in
    let es = c.args.self.now.records.items in
    let count = c.count_up_to-count.result in
    let d = c.index.result.now in
    let k = count - 1 in
    let full : 0 < length s = grind (arith, nat_tests, c.if-is_empty.ensures) in
    let is : count ≡ k + 1 = omega (arith, c.if-count-eq0.false) in
    let inside : k < length es =
    omega (arith, is, c.count_up_to-count.ensures.within, ap length c.deref.ensures.value) in
    has_index c.args.self.now block h s c.utf8.text count
    (rw c.deref.ensures.value at c.count_up_to-count.ensures.behind) k d is inside
    (rw c.deref.ensures.value at c.count_up_to-count.ensures.before k d is)
    c.place_in.result full (rw (← c.index.ensures) c.place_in.ensures)
