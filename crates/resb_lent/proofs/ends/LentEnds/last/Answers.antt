use Rattle.std.proofs.Common.{◌≡◌, ◌+◌, ◌-◌, ◌<◌, length, ap, sym, ◌∙◌, arith, nat_eq, Some}
use Rattle.std.specs.List.{ends_with}
use Rattle.resb_lent.proofs.LastEnding.{none_counted, last_found, none_found}
use Rattle.resb_lent.proofs.ends.LentEnds.last.Goals as goal

pub returns-then-count-eq0 : goal.returns-then-count-eq0
returns-then-count-eq0 c = λ keys h.
    none_counted c.args.self.now keys h c.args.key.now c.count_up_to-count.result
    (rw (c.deref.ensures.value, c.as_bytes.ensures.value) at c.count_up_to-count.ensures.behind)
    c.if-count-eq0.true

pub returns-then-ends_with : goal.returns-then-ends_with
returns-then-ends_with c = λ keys h.
    let count = c.count_up_to-count.result in
    let d = c.index-run.result.now in
    let n = count - 1 in
    let is : count ≡ n + 1 = omega (arith, c.if-count-eq0.false) in
    let inside : n < length c.args.self.now.runs.items =
    omega (arith, is, c.count_up_to-count.ensures.within, ap length c.deref.ensures.value) in
    ap Some c.index-run.ensures ∙ last_found c.args.self.now keys h c.args.key.now count
    (rw (c.deref.ensures.value, c.as_bytes.ensures.value) at c.count_up_to-count.ensures.behind)
    n d is inside
    (rw (c.deref.ensures.value, c.as_bytes.ensures.value)
    at c.count_up_to-count.ensures.before n d is)
    (ap (λ r. ends_with nat_eq r.bytes.now c.args.key.now) (sym c.index-run.ensures)
    ∙ sym (c.ends_with.ensures.value
    ∙ ap (ends_with nat_eq c.index-run.result.now.bytes.now) c.as_bytes-2.ensures.value)
    ∙ c.if-ends_with.true)

pub returns-else-ends_with : goal.returns-else-ends_with
returns-else-ends_with c = λ keys h.
    let count = c.count_up_to-count.result in
    let d = c.index-run.result.now in
    let n = count - 1 in
    let is : count ≡ n + 1 = omega (arith, c.if-count-eq0.false) in
    let inside : n < length c.args.self.now.runs.items =
    omega (arith, is, c.count_up_to-count.ensures.within, ap length c.deref.ensures.value) in
    none_found c.args.self.now keys h c.args.key.now count
    (rw (c.deref.ensures.value, c.as_bytes.ensures.value) at c.count_up_to-count.ensures.behind)
    n d is inside
    (rw (c.deref.ensures.value, c.as_bytes.ensures.value)
    at c.count_up_to-count.ensures.before n d is)
    (ap (λ r. ends_with nat_eq r.bytes.now c.args.key.now) (sym c.index-run.ensures)
    ∙ sym (c.ends_with.ensures.value
    ∙ ap (ends_with nat_eq c.index-run.result.now.bytes.now) c.as_bytes-2.ensures.value)
    ∙ c.if-ends_with.false)
