-- One character further, or the end.
use Rattle.std.proofs.Common.{◌<◌, ◌+◌, ◌∙◌, length, arith, sym}
use Rattle.std.proofs.lemmas.List.{get_or_read}
use Rattle.resb_icu_files.proofs.CollationLemmas.{by_step, by_end}
use Rattle.resb_icu_files.proofs.RulesLemmas.{all_behind}
use Rattle.resb_icu_files.proofs.collation.collect.Goals as goal

pub returns-in-None : goal.returns-in-None
returns-in-None c =
    let cs = c.args.characters.now in
    let low : c.loop-at.at < length cs = omega arith in
    by_step c.loop-at.part c.loop-at.out.items cs c.loop-at.at c.index-characters-at.result _ _ low
    (get_or_read cs _ _ low c.index-characters-at.is 0)
    (rw (all_behind cs (c.loop-at.at + 1)) at (rw c.in-None.is at c.in_ok-next.ensures))
    c.loop-at.invariant

pub loop-at-preserved : goal.loop-at-preserved
loop-at-preserved c =
    let cs = c.args.characters.now in
    let low : c.loop-at.at < length cs = omega arith in
    by_step c.loop-at.part c.loop-at.out.items cs c.loop-at.at c.index-characters-at.result _ _ low
    (get_or_read cs _ _ low c.index-characters-at.is 0)
    (rw (all_behind cs (c.loop-at.at + 1)) at (rw c.in-Some.is at c.in_ok-next.ensures))
    c.loop-at.invariant

pub returns-then-may_end : goal.returns-then-may_end
returns-then-may_end c =
    sym (rw c.if-may_end.true at c.may_end.ensures c.loop-at.out.items)
    ∙ by_end c.loop-at.part c.loop-at.out.items c.args.characters.now c.loop-at.at _ (omega arith)
    c.loop-at.invariant

pub returns-else-may_end : goal.returns-else-may_end
returns-else-may_end c =
    sym (rw c.if-may_end.false at c.may_end.ensures c.loop-at.out.items)
    ∙ by_end c.loop-at.part c.loop-at.out.items c.args.characters.now c.loop-at.at _ (omega arith)
    c.loop-at.invariant
