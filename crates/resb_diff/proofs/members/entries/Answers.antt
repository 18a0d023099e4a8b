use Rattle.std.proofs.Common.{◌∙◌, ap, sym, arith}
use Rattle.resb_tree.specs.View.{entries_view}
use Rattle.resb_diff.specs.Inner.Walking.{entries_to_come, old_left, new_left}
use Rattle.resb_diff.proofs.MemberLemmas.{entries_next, entries_start, entries_step}
use Rattle.resb_diff.proofs.members.entries.Goals as goal

pub loop-key-init : goal.loop-key-init
loop-key-init c =
    entries_start c.args.paths.now c.args.from _ _ c.new-found.result.items _ _
    c.new-found.ensures.items
    (ap entries_view (sym c.iter-olds.ensures.rest)
    ∙ entries_next c.iter-olds.result c.next-one.result c.next-one.new.self
    c.next-one.ensures.steps)
    (ap entries_view (sym c.iter-news.ensures.rest)
    ∙ entries_next c.iter-news.result c.next-other.result c.next-other.new.self
    c.next-other.ensures.steps)

pub put-requires-clause-from : goal.put-requires-clause-from
put-requires-clause-from c = omega (arith, c.loop-key.invariant.keeps.as_many, c.requires)

pub loop-key-preserved-in-Added : goal.loop-key-preserved-in-Added
loop-key-preserved-in-Added c =
    let all = entries_to_come c.loop-key.one (entries_view c.loop-key.olds) in
    let alls = entries_to_come c.loop-key.other (entries_view c.loop-key.news) in
    entries_step c.args.paths.now c.args.from _ _ c.loop-key.paths c.loop-key.found.items
    c.loop-key.one c.loop-key.other _ _ c.loop-key.invariant c.in-Some.key.now c.in-Some.change
    c.put.new.paths c.put.new.found.items c.in-Some.ensures c.requires c.in_ok-put.ensures _ _
    (ap (λ d. old_left d all (entries_view c.loop-key.olds)) (sym c.in-Added.is))
    (sym (entries_next c.loop-key.news c.next-other-in-Added.result c.next-other-in-Added.new.self
    c.next-other-in-Added.ensures.steps)
    ∙ ap (λ d. new_left d alls (entries_view c.loop-key.news)) (sym c.in-Added.is))

pub loop-key-preserved-in-Removed : goal.loop-key-preserved-in-Removed
loop-key-preserved-in-Removed c =
    let all = entries_to_come c.loop-key.one (entries_view c.loop-key.olds) in
    let alls = entries_to_come c.loop-key.other (entries_view c.loop-key.news) in
    entries_step c.args.paths.now c.args.from _ _ c.loop-key.paths c.loop-key.found.items
    c.loop-key.one c.loop-key.other _ _ c.loop-key.invariant c.in-Some.key.now c.in-Some.change
    c.put.new.paths c.put.new.found.items c.in-Some.ensures c.requires c.in_ok-put.ensures _ _
    (sym (entries_next c.loop-key.olds c.next-one-in-Removed.result c.next-one-in-Removed.new.self
    c.next-one-in-Removed.ensures.steps)
    ∙ ap (λ d. old_left d all (entries_view c.loop-key.olds)) (sym c.in-Removed.is))
    (ap (λ d. new_left d alls (entries_view c.loop-key.news)) (sym c.in-Removed.is))

pub loop-key-preserved : goal.loop-key-preserved
loop-key-preserved c =
    let all = entries_to_come c.loop-key.one (entries_view c.loop-key.olds) in
    let alls = entries_to_come c.loop-key.other (entries_view c.loop-key.news) in
    entries_step c.args.paths.now c.args.from _ _ c.loop-key.paths c.loop-key.found.items
    c.loop-key.one c.loop-key.other _ _ c.loop-key.invariant c.in-Some.key.now c.in-Some.change
    c.put.new.paths c.put.new.found.items c.in-Some.ensures c.requires c.in_ok-put.ensures _ _
    (sym (entries_next c.loop-key.olds c.next-one-in-Changed.result c.next-one-in-Changed.new.self
    c.next-one-in-Changed.ensures.steps)
    ∙ ap (λ d. old_left d all (entries_view c.loop-key.olds)) (sym c.in-Changed.is))
    (sym (entries_next c.loop-key.news c.next-other-in-Changed.result
    c.next-other-in-Changed.new.self c.next-other-in-Changed.ensures.steps)
    ∙ ap (λ d. new_left d alls (entries_view c.loop-key.news)) (sym c.in-Changed.is))
