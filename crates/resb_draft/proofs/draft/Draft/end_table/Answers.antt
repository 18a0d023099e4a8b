use Rattle.std.proofs.Common.{◌∙◌, sym, ap, map, drop, Bor, List, ℕ}
use Rattle.std.proofs.lemmas.List.{take_rest}
use Rattle.std.proofs.lemmas.Result.{IfOk-weaker}
use Rattle.resb_tree.specs.Borrowing.{all_true}
use Rattle.resb_tree.specs.Tree.{table, entries_of, map_of}
use Rattle.resb_draft.specs.Drafts.{texts, texts_ascend, tree_at, is_whole, IsMade}
use Rattle.resb_draft.proofs.EntriesBehind.{entries_keep, members_behind, keys_behind, entries_on}
use Rattle.resb_draft.proofs.EntriesBehind.{same_keeps}
use Rattle.resb_draft.proofs.EntriesLemmas.{seen, ascending_map, own_ascend}
use Rattle.resb_draft.proofs.Standing.{keeps_on}
use Rattle.resb_draft.proofs.draft.Draft.end_table.Goals as goal

pub returns-then-ascend-clause-made : goal.returns-then-ascend-clause-made
returns-then-ascend-clause-made c = λ before ps h whole.
    let old = c.args.self.now in
    let new = c.end_ascending.new.self in
    let m = c.args.first_member in
    let k = c.args.first_key in
    let names = keys_behind before old m k ps h in
    let on = entries_on before old (entries_keep before old m k ps h) ps whole in
    let ascends = own_ascend (drop k old.keys.items) ps names
    (ap (λ l. texts_ascend (texts (drop k l))) (sym c.deref.ensures.value)
    ∙ ap (λ l. texts_ascend (texts l)) (sym (take_rest c.deref.result.now k))
    ∙ c.ascend.ensures c.if-ascend.true) in
    IfOk-weaker c.end_ascending.result
    (λ n. IsMade new n (table (entries_of (seen (tree_at old) ps))))
    (λ n. IsMade new n (table (map_of (seen (tree_at before) ps))))
    (λ n made. (
      made.0 ∙ ap table (ascending_map (tree_at old) ps ascends)
          ∙ ap (λ es. table (map_of es)) on.0,
      made.1,
    ))
    (c.end_ascending.ensures.made ps (members_behind before old m k ps h) names ascends on.1)

pub returns-then-ascend-clause-keeps : goal.returns-then-ascend-clause-keeps
returns-then-ascend-clause-keeps c = λ before ps h.
    keeps_on before c.args.self.now c.end_ascending.new.self
    (entries_keep before c.args.self.now c.args.first_member c.args.first_key ps h)
    c.end_ascending.ensures.keeps

pub returns-clause-made : goal.returns-clause-made
returns-clause-made c = λ before ps h whole.
    let mid = c.take_entries.new.self in
    let new = c.push_table.new.self in
    let taken = c.in_ok-entries.ensures.taken before ps h in
    let on = entries_on before mid (same_keeps before mid taken.1) ps whole in
    let own = c.deref-2.ensures.value in
    let sorted = c.in_ok-entries-2.ensures in
    IfOk-weaker c.push_table.result
    (λ n. IsMade new n (table (entries_of (seen (tree_at mid) c.deref-2.result.now))))
    (λ n. IsMade new n (table (map_of (seen (tree_at before) ps))))
    (λ n made. (
      made.0 ∙ ap (λ qs. table (entries_of (seen (tree_at mid) qs))) own
          ∙ ap table (sorted.entries (tree_at mid))
          ∙ ap (λ qs. table (map_of (seen (tree_at mid) qs))) taken.0
          ∙ ap (λ es. table (map_of es)) on.0,
      made.1,
    ))
    (c.push_table.ensures.made
    (ap (λ qs. all_true (map (λ (p : Bor (List ℕ) × ℕ). is_whole mid p.1) qs)) own
    ∙ sorted.each (is_whole mid)
    (ap (λ qs. all_true (map (λ (p : Bor (List ℕ) × ℕ). is_whole mid p.1) qs)) taken.0 ∙ on.1)))
