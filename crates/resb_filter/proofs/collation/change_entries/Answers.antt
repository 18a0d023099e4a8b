use Rattle.std.proofs.Common.{IfOk, refl, sym, subst, arith, rules, get_or, Bor, List, ℕ}
use Rattle.std.proofs.lemmas.List.{take_all}
use Rattle.std.specs.Prelude.{Some}
use Rattle.resb_tree.specs.Tree.{Tree}
use Rattle.resb_draft.specs.Drafts.{IsMade}
use Rattle.resb_filter.specs.Inner.Entries.{AreEntries}
use Rattle.resb_filter.specs.Inner.Left.{LeftSoFar}
use Rattle.resb_filter.proofs.TableLemmas.{stays_more, changed_made, entry_whole}
use Rattle.resb_filter.proofs.collation.change_entries.Goals as goal

pub change-requires : goal.change-requires
change-requires g c =
    let d = c.args.draft.now in
    let es = c.deref-entry-items.result.now in
    let are : AreEntries d c.args.number es =
    subst (AreEntries d c.args.number) (sym c.deref-entry-items.ensures.value)
    (rw c.in-Some.is at c.in_ok-entries.ensures) in
    let whole = λ (p : Bor (List ℕ) × ℕ). (c.loop-entry.invariant.keeps
    (get_or es c.loop-entry.entry-index p).1
    (entry_whole d es c.loop-entry.entry-index p are.whole c.loop-entry-test.true)).1 in
    search (rules, whole)

pub loop-entry-preserved : goal.loop-entry-preserved
loop-entry-preserved g c =
    let d = c.args.draft.now in
    let es = c.deref-entry-items.result.now in
    let are : AreEntries d c.args.number es =
    subst (AreEntries d c.args.number) (sym c.deref-entry-items.ensures.value)
    (rw c.in-Some.is at c.in_ok-entries.ensures) in
    stays_more d c.loop-entry.draft c.change.new.draft
    (λ k t. Some (g.C.EachEntry.changes c.args.change.now k t)) es c.loop-entry.entry-index _
    c.loop-entry.changed.items c.push.new.self.items (Some c.in_ok-value.value)
    c.in_ok-value.value c.loop-entry-test.true c.loop-entry.invariant are.whole
    c.in_ok-value.ensures.keeps c.in_ok-value.ensures.made refl c.in_ok-push.ensures.items

pub returns-clause-made : goal.returns-clause-made
returns-clause-made g c =
    let start = c.args.draft.now in
    let d = c.loop-entry.draft in
    let n = c.args.number in
    let f : List ℕ → Tree → Tree = g.C.EachEntry.changes c.args.change.now in
    let es = c.deref-entry-items.result.now in
    let are : AreEntries start n es =
    subst (AreEntries start n) (sym c.deref-entry-items.ensures.value)
    (rw c.in-Some.is at c.in_ok-entries.ensures) in
    let all = take_all c.loop-entry.entry-index es
    (omega (arith, c.loop-entry-test.false, c.loop-entry.auto.entry-index-end)) in
    let so : LeftSoFar start d (λ k t. Some (f k t)) es c.deref.result.now =
    subst (LeftSoFar start d (λ k t. Some (f k t)) es) (sym c.deref.ensures.value)
    (subst (λ ps. LeftSoFar start d (λ k t. Some (f k t)) ps c.loop-entry.changed.items) all
    c.loop-entry.invariant) in
    subst (λ u. IfOk c.push_table.result (λ m. IsMade c.push_table.new.draft m u))
    (changed_made start d n f es c.deref.result.now are so) (c.push_table.ensures.made so.whole)
