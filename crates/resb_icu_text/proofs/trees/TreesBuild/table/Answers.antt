use Rattle.std.proofs.Common.{ap, sym, ◌∙◌, length, refl}
use Rattle.resb_tree.specs.View.{tree_of}
use Rattle.resb_icu_text.proofs.DistinctLemmas.{keyed, as_many_entries, made_table}
use Rattle.resb_icu_text.proofs.DistinctLemmas.{made_count, made_kept}
use Rattle.resb_icu_text.proofs.trees.TreesBuild.table.Goals as goal

pub returns-then-len-count-clause-distinct : goal.returns-then-len-count-clause-distinct
returns-then-len-count-clause-distinct c =
    let es = c.args.entries.now.items in
    let keys = c.in_ok-with_keys.ensures
    ∙ ap (λ v. keyed v.items) c.replace-entries.ensures.value in
    let m = c.in_ok-table.table in
    let is = c.in_ok-table.ensures in
    (as_many_entries tree_of es).1 (sym (made_count es c.in_ok-with_keys.field-0.items m keys is)
    ∙ sym c.len.ensures.len ∙ c.if-len-count.true ∙ c.len-count.ensures
    ∙ c.replace-entries.result.ok.0 ∙ ap (λ v. length v.items) c.replace-entries.ensures.value)

pub returns-then-len-count-clause-made : goal.returns-then-len-count-clause-made
returns-then-len-count-clause-made c =
    let es = c.args.entries.now.items in
    let keys = c.in_ok-with_keys.ensures
    ∙ ap (λ v. keyed v.items) c.replace-entries.ensures.value in
    let m = c.in_ok-table.table in
    let is = c.in_ok-table.ensures in (
      made_table es c.in_ok-with_keys.field-0.items m keys is,
      λ t h. made_kept es c.in_ok-with_keys.field-0.items m keys is t h,
      λ x t h. (refl, h),
    )

pub returns-clause-none : goal.returns-clause-none
returns-clause-none c = λ distinct.
    let es = c.args.entries.now.items in
    let keys = c.in_ok-with_keys.ensures
    ∙ ap (λ v. keyed v.items) c.replace-entries.ensures.value in
    let m = c.in_ok-table.table in
    let is = c.in_ok-table.ensures in
    c.if-len-count.false (c.len.ensures.len
    ∙ made_count es c.in_ok-with_keys.field-0.items m keys is
    ∙ (as_many_entries tree_of es).0 distinct
    ∙ sym (c.len-count.ensures ∙ c.replace-entries.result.ok.0
    ∙ ap (λ v. length v.items) c.replace-entries.ensures.value))
