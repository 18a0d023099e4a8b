use Rattle.std.proofs.Common.{sym, ◌∙◌}
use Rattle.resb_draft.specs.Drafts.{tree_at}
use Rattle.resb_icu_text.proofs.DistinctLemmas.{as_many_entries}
use Rattle.resb_icu_text.proofs.DraftLemmas.{keeps_grow, keys_made, ends_at}
use Rattle.resb_icu_text.proofs.drafts.DraftBuild.table.Goals as goal

pub returns-then-own_keys-len-clause-distinct : goal.returns-then-own_keys-len-clause-distinct
returns-then-own_keys-len-clause-distinct c =
    let d = c.args.self.now in
    let es = c.args.entries.now.items in
    let ends = ends_at d c.push_entries.new.draft _ _ _ es c.in_ok-push_entries.ensures
    (c.len-first_member.ensures ∙ d.members.ok.0) (c.len-first_key.ensures ∙ d.keys.ok.0)
    c.deref.ensures.value in
    let made = c.in_ok-number.ensures.made d es ends c.requires.held in
    let count = keys_made d c.end_table.new.self c.in_ok-number.number es c.own_keys.result.now made
    c.own_keys.ensures in
    (as_many_entries (tree_at d) es).1
    (sym count ∙ c.if-own_keys-len.true ∙ c.len.ensures ∙ c.args.entries.now.ok.0)

pub returns-then-own_keys-len-clause-made : goal.returns-then-own_keys-len-clause-made
returns-then-own_keys-len-clause-made c =
    let d = c.args.self.now in
    let es = c.args.entries.now.items in
    let ends = ends_at d c.push_entries.new.draft _ _ _ es c.in_ok-push_entries.ensures
    (c.len-first_member.ensures ∙ d.members.ok.0) (c.len-first_key.ensures ∙ d.keys.ok.0)
    c.deref.ensures.value in
    let made = c.in_ok-number.ensures.made d es ends c.requires.held in (
      made.0,
      λ t h. made.1,
      keeps_grow d c.end_table.new.self (c.in_ok-number.ensures.keeps d es ends),
    )

pub returns-else-own_keys-len-clause-none : goal.returns-else-own_keys-len-clause-none
returns-else-own_keys-len-clause-none c = λ distinct.
    let d = c.args.self.now in
    let es = c.args.entries.now.items in
    let ends = ends_at d c.push_entries.new.draft _ _ _ es c.in_ok-push_entries.ensures
    (c.len-first_member.ensures ∙ d.members.ok.0) (c.len-first_key.ensures ∙ d.keys.ok.0)
    c.deref.ensures.value in
    let made = c.in_ok-number.ensures.made d es ends c.requires.held in
    let count = keys_made d c.end_table.new.self c.in_ok-number.number es c.own_keys.result.now made
    c.own_keys.ensures in
    c.if-own_keys-len.false (count ∙ (as_many_entries (tree_at d) es).0 distinct
    ∙ sym (c.len.ensures ∙ c.args.entries.now.ok.0))
