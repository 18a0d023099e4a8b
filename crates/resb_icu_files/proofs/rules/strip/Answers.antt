-- One character further, or the end.
use Rattle.std.proofs.Common.{◌<◌, length, arith, ◌+◌}
use Rattle.std.proofs.lemmas.List.{get_or_read}
use Rattle.resb_icu_files.proofs.RulesLemmas.{all_behind, goes_on, ends_none, ends_some}
use Rattle.resb_icu_files.proofs.rules.strip.Goals as goal

pub returns-in-None : goal.returns-in-None
returns-in-None c =
    let cs = c.args.characters.now in
    let low : c.loop-at.at < length cs = omega arith in
    ends_none c.loop-at.standing c.loop-at.out.items cs c.loop-at.at c.index-characters-at.result _
    low (get_or_read cs _ _ low c.index-characters-at.is 0)
    (rw (all_behind cs (c.loop-at.at + 1)) at (rw c.in-None.is at c.in_ok-next.ensures))
    c.loop-at.invariant

pub loop-at-preserved : goal.loop-at-preserved
loop-at-preserved c =
    let cs = c.args.characters.now in
    let low : c.loop-at.at < length cs = omega arith in
    goes_on c.loop-at.standing c.in-Some.next c.loop-at.out.items c.rule_step.new.out.items cs
    c.loop-at.at c.index-characters-at.result _ low
    (get_or_read cs _ _ low c.index-characters-at.is 0)
    (rw (all_behind cs (c.loop-at.at + 1)) at (rw c.in-Some.is at c.in_ok-next.ensures))
    c.loop-at.invariant

pub returns : goal.returns
returns c =
    ends_some c.loop-at.standing c.loop-at.out.items c.args.characters.now c.loop-at.at _
    (omega arith) c.loop-at.invariant
