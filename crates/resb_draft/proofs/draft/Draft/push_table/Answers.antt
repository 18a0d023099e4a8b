use Rattle.std.proofs.Common.{ap, ◌∙◌, ◌++◌, map, Bor, List, ℕ, arith}
use Rattle.std.proofs.lemmas.List.{take_all}
use Rattle.std.proofs.lemmas.Result.{IfOk-weaker}
use Rattle.resb_tree.specs.Tree.{table, entries_of}
use Rattle.resb_draft.specs.Drafts.{IsMade, tree_at}
use Rattle.resb_draft.proofs.EntriesBehind.{entries_on}
use Rattle.resb_draft.proofs.EntriesLemmas.{seen}
use Rattle.resb_draft.proofs.Lists.{drop_to_put}
use Rattle.resb_draft.proofs.Standing.{keeps_on}
use Rattle.resb_draft.proofs.draft.Draft.push_table.Goals as goal

pub returns-clause-made : goal.returns-clause-made
returns-clause-made c = λ h.
    let old = c.args.self.now in
    let mid = c.loop-entry.self in
    let new = c.end_ascending.new.self in
    let es = c.args.entries.now in
    let i = c.loop-entry.invariant in
    let on = entries_on old mid i.keeps es h in
    let all = take_all c.loop-entry.entry-index es
    (omega (arith, c.loop-entry-test.false, c.loop-entry.auto.entry-index-end)) in
    IfOk-weaker c.end_ascending.result
    (λ n. IsMade new n (table (entries_of (seen (tree_at mid) es))))
    (λ n. IsMade new n (table (entries_of (seen (tree_at old) es))))
    (λ n made. (made.0 ∙ ap (λ ps. table (entries_of ps)) on.0, made.1))
    (c.end_ascending.ensures.made es
    (drop_to_put old.members.items _ mid.members.items _
    (c.len-first_member.ensures ∙ old.members.ok.0)
    (i.members ∙ ap (λ l. old.members.items ++ map (λ (e : Bor (List ℕ) × ℕ). e.1) l) all))
    (drop_to_put old.keys.items _ mid.keys.items _ (c.len-first_key.ensures ∙ old.keys.ok.0)
    (i.keys ∙ ap (λ l. old.keys.items ++ map (λ (e : Bor (List ℕ) × ℕ). e.0) l) all))
    c.requires on.1)

pub returns-clause-keeps : goal.returns-clause-keeps
returns-clause-keeps c =
    keeps_on c.args.self.now c.loop-entry.self c.end_ascending.new.self c.loop-entry.invariant.keeps
    c.end_ascending.ensures.keeps
