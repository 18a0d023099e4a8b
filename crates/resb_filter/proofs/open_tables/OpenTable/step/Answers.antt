use Rattle.std.proofs.Common.{◌≡◌, ◌+◌, false, refl, sym, ap, ◌∙◌, subst, arith}
use Rattle.resb_draft.specs.Drafts.{tree_at, is_whole, IsMade}
use Rattle.resb_filter.specs.Filtered.{verdict}
use Rattle.resb_filter.specs.View.{rules_left}
use Rattle.resb_filter.specs.Inner.Entries.{is_table}
use Rattle.resb_filter.specs.Inner.Open.{Opens, next_entry}
use Rattle.resb_filter.proofs.OpenLemmas.{next_is, told, next_made, behind_less, waits_whole}
use Rattle.resb_filter.proofs.OpenLemmas.{pass_next, waits_inner, inner_less, waits_no_table}
use Rattle.resb_filter.proofs.open_tables.OpenTable.step.Goals as goal

pub returns-in-Whole : goal.returns-in-Whole
returns-in-Whole c =
    let t = c.args.self.now in
    let d = c.args.draft.now in
    let lt = c.requires.more in
    let is = next_is t c.index.result.now lt c.index.ensures in
    let inside = told t c.index.result.now is c.deref.result.now c.in_ok-inside.inside.items
    c.deref.ensures.value c.in_ok-inside.ensures in
    let says = ap verdict (sym (ap rules_left c.deref-2.ensures.value ∙ inside))
    ∙ sym c.decide.ensures ∙ c.in-Whole.is in (
      λ w o. c.in_ok-put-in-Whole.ensures.table d w (tree_at o.start (next_entry t).1)
          (waits_whole d w t o lt says)
          (subst (λ p. IsMade d p.1 (tree_at o.start (next_entry t).1)) (sym is) (next_made t o lt)),
      omega (arith, c.in_ok-put-in-Whole.ensures.weight d, behind_less d t lt),
    )

pub returns-in-Out : goal.returns-in-Out
returns-in-Out c =
    let t = c.args.self.now in
    let d = c.args.draft.now in
    let lt = c.requires.more in
    let is = next_is t c.index.result.now lt c.index.ensures in
    let inside = told t c.index.result.now is c.deref.result.now c.in_ok-inside.inside.items
    c.deref.ensures.value c.in_ok-inside.ensures in
    let says = ap verdict (sym (ap rules_left c.deref-2.ensures.value ∙ inside))
    ∙ sym c.decide.ensures ∙ c.in-Out.is in (
      λ w o. pass_next d w t (record {
        rules = t.rules;
        entries = t.entries;
        done = t.done + 1;
        left = t.left;
      }) o lt says refl refl,
      behind_less d t lt,
    )

pub open_table-requires : goal.open_table-requires
open_table-requires c =
    let t = c.args.self.now in
    let d = c.args.draft.now in
    let lt = c.requires.more in
    let is = next_is t c.index.result.now lt c.index.ensures in
    ap (λ p. is_whole d p.1) is ∙ (next_made t c.requires.table.1 lt).1

pub returns-in-Some : goal.returns-in-Some
returns-in-Some c =
    let t = c.args.self.now in
    let d = c.args.draft.now in
    let lt = c.requires.more in
    let is = next_is t c.index.result.now lt c.index.ensures in
    let inside = told t c.index.result.now is c.deref.result.now c.in_ok-inside.inside.items
    c.deref.ensures.value c.in_ok-inside.ensures in
    let says = ap verdict (sym (ap rules_left c.deref-2.ensures.value ∙ inside))
    ∙ sym c.decide.ensures ∙ c.in-Partly.is in
    let rs = rules_left c.in_ok-inside.inside.items in
    let inner = c.in-Some.inner in
    let here : Opens d rs c.index.result.now.1 inner =
    rw c.in-Some.is at c.in_ok-inner-in-Partly.ensures in
    let opens = subst (λ p. Opens d rs p.1 inner) is here in (
      λ w o. waits_inner d w t inner rs o lt says inside opens,
      inner_less d t inner rs lt opens,
    )

pub returns : goal.returns
returns c =
    let t = c.args.self.now in
    let d = c.args.draft.now in
    let lt = c.requires.more in
    let is = next_is t c.index.result.now lt c.index.ensures in
    let inside = told t c.index.result.now is c.deref.result.now c.in_ok-inside.inside.items
    c.deref.ensures.value c.in_ok-inside.ensures in
    let says = ap verdict (sym (ap rules_left c.deref-2.ensures.value ∙ inside))
    ∙ sym c.decide.ensures ∙ c.in-Partly.is in
    let here : is_table (tree_at d c.index.result.now.1) ≡ false =
    rw c.in-None.is at c.in_ok-inner-in-Partly.ensures in
    let none = subst (λ p. is_table (tree_at d p.1) ≡ false) is here in (
      λ w o. c.in_ok-put-in-None.ensures.table d w (tree_at o.start (next_entry t).1)
          (waits_no_table d w t o lt says none)
          (subst (λ p. IsMade d p.1 (tree_at o.start (next_entry t).1)) (sym is) (next_made t o lt)),
      omega (arith, c.in_ok-put-in-None.ensures.weight d, behind_less d t lt),
    )
