use Rattle.std.proofs.Common.{◌≡◌, ◌∙◌, length, ap, sym, arith}
use Rattle.resb_tree.specs.View.{items_view}
use Rattle.resb_diff.proofs.MemberLemmas.{trees_next, members_start, members_step}
use Rattle.resb_diff.proofs.MemberLemmas.{members_smaller, members_end, members_path}
use Rattle.resb_diff.proofs.members.members.Goals as goal

pub loop-change-init : goal.loop-change-init
loop-change-init c =
    let one = trees_next c.iter-olds.result c.next-one.result c.next-one.new.self
    c.next-one.ensures.steps in
    let other = trees_next c.iter-news.result c.next-other.result c.next-other.new.self
    c.next-other.ensures.steps in
    members_start c.args.paths.now c.args.from _ _ c.new-found.result.items c.next-one.result
    c.next-other.result _ _ c.new-found.ensures.items
    (ap items_view (sym (c.iter-olds.ensures.rest ∙ c.deref.ensures.value)) ∙ one.0, one.1)
    (ap items_view (sym (c.iter-news.ensures.rest ∙ c.deref-2.ensures.value)) ∙ other.0, other.1)

pub loop-change-preserved : goal.loop-change-preserved
loop-change-preserved c =
    let number : c.len-number.result ≡ length c.loop-change.found.items =
    omega (arith, c.len-number.ensures, c.loop-change.found.ok.0) in
    members_step c.args.paths.now c.args.from _ _ c.loop-change.paths c.loop-change.found.items
    c.loop-change.one c.loop-change.other _ _ c.loop-change.invariant c.in-Some.change
    c.put.new.paths c.put.new.found.items _ c.in-Some.ensures
    (members_path c.args.paths.now c.args.from _ _ c.loop-change.paths c.loop-change.found.items
    c.loop-change.one c.loop-change.other _ _ c.loop-change.invariant c.len-number.result
    c.requires number) c.in_ok-put.ensures c.next-one-in-Some.result c.next-other-in-Some.result _ _
    (trees_next c.loop-change.olds c.next-one-in-Some.result c.next-one-in-Some.new.self
    c.next-one-in-Some.ensures.steps)
    (trees_next c.loop-change.news c.next-other-in-Some.result c.next-other-in-Some.new.self
    c.next-other-in-Some.ensures.steps)

pub loop-change-smaller : goal.loop-change-smaller
loop-change-smaller c =
    let number : c.len-number.result ≡ length c.loop-change.found.items =
    omega (arith, c.len-number.ensures, c.loop-change.found.ok.0) in
    members_smaller c.args.paths.now c.args.from _ _ c.loop-change.paths c.loop-change.found.items
    c.loop-change.one c.loop-change.other _ _ c.loop-change.invariant c.in-Some.change
    c.put.new.paths c.put.new.found.items _ c.in-Some.ensures
    (members_path c.args.paths.now c.args.from _ _ c.loop-change.paths c.loop-change.found.items
    c.loop-change.one c.loop-change.other _ _ c.loop-change.invariant c.len-number.result
    c.requires number) c.in_ok-put.ensures c.next-one-in-Some.result c.next-other-in-Some.result _ _
    (trees_next c.loop-change.olds c.next-one-in-Some.result c.next-one-in-Some.new.self
    c.next-one-in-Some.ensures.steps)
    (trees_next c.loop-change.news c.next-other-in-Some.result c.next-other-in-Some.new.self
    c.next-other-in-Some.ensures.steps)

pub put-requires-clause-from : goal.put-requires-clause-from
put-requires-clause-from c = omega (arith, c.loop-change.invariant.keeps.as_many, c.requires)

pub returns : goal.returns
returns c =
    members_end c.args.paths.now c.args.from _ _ c.loop-change.paths c.loop-change.found.items
    c.loop-change.one c.loop-change.other _ _ c.loop-change.invariant c.in_default.ensures
