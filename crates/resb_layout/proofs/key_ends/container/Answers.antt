use Rattle.std.proofs.Common.{◌≡◌, ◌+◌, ◌-◌, ℕ, List, Bor, nat_eq, sym, ◌∙◌}
use Rattle.std.proofs.Common.{arith, []}
use Rattle.std.specs.List.{ends_with}
use Rattle.resb_layout.proofs.KeyEndsLemmas.{none_counted, last_holds, itself_holds}
use Rattle.resb_layout.proofs.key_ends.container.Goals as goal

pub returns-then-count-eq0 : goal.returns-then-count-eq0
returns-then-count-eq0 c = λ js o. none_counted js c.args.sorted.now o c.args.key.now
    c.count_up_to-count.result c.count_up_to-count.ensures.within
    c.count_up_to-count.ensures.behind c.if-count-eq0.true

pub returns-then-ends_with : goal.returns-then-ends_with
returns-then-ends_with c = λ js o.
    let d : Bor (List ℕ) = record { ref_ptr = (0, 0); now = [] } in
    let count = c.count_up_to-count in
    let is : count.result ≡ count.result - 1 + 1 = omega (arith, c.if-count-eq0.false) in
    last_holds js c.args.sorted.now o c.args.key.now count.result count.ensures.within
    count.ensures.behind (count.result - 1) d is (count.ensures.before (count.result - 1) d is)
    (sym (c.ends_with.ensures.value
    ∙ (λ i. ends_with nat_eq (c.as_bytes.ensures.value i) (c.as_bytes-2.ensures.value i)))
    ∙ c.if-ends_with.true)

pub returns-else-ends_with : goal.returns-else-ends_with
returns-else-ends_with c = λ js o.
    let d : Bor (List ℕ) = record { ref_ptr = (0, 0); now = [] } in
    let count = c.count_up_to-count in
    let is : count.result ≡ count.result - 1 + 1 = omega (arith, c.if-count-eq0.false) in
    itself_holds js c.args.sorted.now o c.args.key.now count.result count.ensures.within
    count.ensures.behind (count.result - 1) d is (count.ensures.before (count.result - 1) d is)
    (sym (c.ends_with.ensures.value
    ∙ (λ i. ends_with nat_eq (c.as_bytes.ensures.value i) (c.as_bytes-2.ensures.value i)))
    ∙ c.if-ends_with.false)
