use Rattle.std.proofs.Common.{sym, ap, ◌∙◌, subst, arith}
use Rattle.resb_draft.specs.Drafts.{tree_at}
use Rattle.resb_filter.specs.Filtered.{filtered}
use Rattle.resb_filter.specs.View.{rules_left}
use Rattle.resb_filter.specs.Inner.Open.{StepsTo}
use Rattle.std.specs.Prelude.{Some}
use Rattle.resb_filter.proofs.OpenLemmas.{Around, weights, around_none, around_pop, around_push}
use Rattle.resb_filter.proofs.OpenLemmas.{around_on, waits_on, behind_on, weights_on, weights_push}
use Rattle.resb_filter.proofs.OpenLemmas.{done_made}
use Rattle.resb_filter.proofs.filtering.filter_piece.Goals as goal

pub returns-in_default-pop : goal.returns-in_default-pop
returns-in_default-pop c =
    let d = c.tables.draft in
    let inv = c.tables.invariant in
    let done = done_made d inv.0 c.tables.table c.deref.result.now inv.2
    (c.is_done.ensures.0 c.if-is_done.true) c.deref.ensures.value in
    let made = c.in_ok-made.ensures.made done.1 in
    let empty = rw c.in_default-pop.is at c.pop.ensures.cases in
    let alone = around_none d _ inv.0 c.tables.around.items
    (omega (arith, c.tables.around.ok.0, empty.0)) inv.1 in
    (made.0 ∙ done.0 ∙ sym alone, made.1)

pub put-requires : goal.put-requires
put-requires c =
    let d = c.tables.draft in
    let inv = c.tables.invariant in
    let t = filtered (rules_left c.args.rules.items) (tree_at c.args.draft.now c.args.number) in
    let split = around_pop d t inv.0 c.pop.new.self.items c.in-Some-pop.outer
    (subst (Around d t inv.0) c.in-Some-pop.ensures.items inv.1) in
    split.2.within

pub tables-smaller-in-Continue-branch-4 : goal.tables-smaller-in-Continue-branch-4
tables-smaller-in-Continue-branch-4 c =
    let d = c.tables.draft in
    let e = c.push_table.new.draft in
    let inv = c.tables.invariant in
    let t = filtered (rules_left c.args.rules.items) (tree_at c.args.draft.now c.args.number) in
    let left = c.pop.new.self.items in
    let split = around_pop d t inv.0 left c.in-Some-pop.outer
    (subst (Around d t inv.0) c.in-Some-pop.ensures.items inv.1) in
    let keeps = c.in_ok-made.ensures.keeps in
    let waits = split.2 in
    omega (
      arith,
      ap (weights d) c.in-Some-pop.ensures.items,
      weights_push d left c.in-Some-pop.outer,
      weights_on d e t split.0 left keeps split.1,
      c.in_ok-put.ensures.weight e,
      behind_on d e keeps waits.own,
    )

pub tables-preserved-in-Continue-branch-4 : goal.tables-preserved-in-Continue-branch-4
tables-preserved-in-Continue-branch-4 c =
    let d = c.tables.draft in
    let e = c.push_table.new.draft in
    let inv = c.tables.invariant in
    let t = filtered (rules_left c.args.rules.items) (tree_at c.args.draft.now c.args.number) in
    let left = c.pop.new.self.items in
    let split = around_pop d t inv.0 left c.in-Some-pop.outer
    (subst (Around d t inv.0) c.in-Some-pop.ensures.items inv.1) in
    let keeps = c.in_ok-made.ensures.keeps in
    let done = done_made d inv.0 c.tables.table c.deref.result.now inv.2
    (c.is_done.ensures.0 c.if-is_done.true) c.deref.ensures.value in
    let made = c.in_ok-made.ensures.made done.1 in (
      split.0,
      around_on d e t split.0 left keeps split.1,
      c.in_ok-put.ensures.table e split.0 inv.0 (waits_on keeps split.2)
          (made.0 ∙ done.0, made.1),
    )

pub tables-smaller-in-Some-2 : goal.tables-smaller-in-Some-2
tables-smaller-in-Some-2 c =
    let d = c.tables.draft in
    let s = c.step.new.self in
    let steps : StepsTo d c.tables.table s (Some c.in-Some-2.inner) =
    rw c.in-Some-2.is at c.in_ok-inner.ensures in
    omega (
      arith,
      steps.1,
      ap (weights d) c.in_ok-push.ensures.items,
      weights_push d c.tables.around.items s,
    )

pub tables-preserved-in-Some-2 : goal.tables-preserved-in-Some-2
tables-preserved-in-Some-2 c =
    let d = c.tables.draft in
    let inv = c.tables.invariant in
    let s = c.step.new.self in
    let t = filtered (rules_left c.args.rules.items) (tree_at c.args.draft.now c.args.number) in
    let steps : StepsTo d c.tables.table s (Some c.in-Some-2.inner) =
    rw c.in-Some-2.is at c.in_ok-inner.ensures in
    let got = steps.0 inv.0 inv.2 in (
      got.0,
      subst (Around d t got.0) (sym c.in_ok-push.ensures.items)
          (around_push d t inv.0 got.0 c.tables.around.items s inv.1 got.1),
      got.2,
    )
