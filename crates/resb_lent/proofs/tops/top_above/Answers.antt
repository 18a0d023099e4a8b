use Rattle.std.proofs.Common.{◌≡◌, ◌+◌, ◌-◌, arith, subst, ◌∙◌}
use Rattle.resb_pool.specs.Records.{EndsWith}
use Rattle.resb_lent.proofs.TopsFound.{none_above, greatest_above, no_top_above}
use Rattle.resb_lent.proofs.tops.top_above.Goals as goal

pub returns-then-count-eq0 : goal.returns-then-count-eq0
returns-then-count-eq0 c = λ u t.
    none_above c.args.records.now u c.args.tops.now t c.args.text.now c.utf8.text
    c.count_up_to-count.result c.count_up_to-count.ensures.behind c.if-count-eq0.true

pub returns-then-ends_with : goal.returns-then-ends_with
returns-then-ends_with c = λ u t.
    let count = c.count_up_to-count.result in
    let is : count ≡ (count - 1) + 1 = omega (arith, c.if-count-eq0.false) in
    let e = c.text_of.ensures in
    let s = c.args.text.now in
    let h : EndsWith c.text_of.result.now s = record {
      front = _;
      is = c.if-ends_with.ensures.cases.1.1;
    } in
    greatest_above c.args.records.now u c.args.tops.now t s c.utf8.text count
    c.count_up_to-count.ensures.behind (count - 1) is c.count_up_to-count.ensures.within
    (c.count_up_to-count.ensures.before (count - 1) is) (subst (λ z. EndsWith z s) e h)

pub returns-else-ends_with : goal.returns-else-ends_with
returns-else-ends_with c = λ u t.
    let count = c.count_up_to-count.result in
    let is : count ≡ (count - 1) + 1 = omega (arith, c.if-count-eq0.false) in
    let s = c.args.text.now in
    no_top_above c.args.records.now u c.args.tops.now t s c.utf8.text count
    c.count_up_to-count.ensures.behind (count - 1) is c.count_up_to-count.ensures.within
    (c.count_up_to-count.ensures.before (count - 1) is)
    (λ h. c.if-ends_with.ensures.cases h.front (c.text_of.ensures ∙ h.is))
