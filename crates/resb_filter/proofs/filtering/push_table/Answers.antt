use Rattle.std.proofs.Common.{arith, ap, ◌∙◌, ◌++◌, map, Bor, List, ℕ, length, take}
use Rattle.std.proofs.lemmas.List.{take_all, length-append}
use Rattle.resb_filter.proofs.TableLemmas.{when_ok}
use Rattle.resb_filter.proofs.filtering.push_table.Goals as goal

pub end_table-requires-clause-members : goal.end_table-requires-clause-members
end_table-requires-clause-members c = omega (
  arith,
  c.len-first_member.ensures,
  c.args.draft.now.members.ok.0,
  ap length c.loop-entry.invariant.members,
  length-append c.args.draft.now.members.items
      (map (λ (e : Bor (List ℕ) × ℕ). e.1) (take c.loop-entry.entry-index c.args.entries.now)),
)

pub end_table-requires-clause-keys : goal.end_table-requires-clause-keys
end_table-requires-clause-keys c = omega (
  arith,
  c.len-first_key.ensures,
  c.args.draft.now.keys.ok.0,
  ap length c.loop-entry.invariant.keys,
  length-append c.args.draft.now.keys.items
      (map (λ (e : Bor (List ℕ) × ℕ). e.0) (take c.loop-entry.entry-index c.args.entries.now)),
)

pub returns-clause-made : goal.returns-clause-made
returns-clause-made c = λ h.
    let old = c.args.draft.now in
    let es = c.args.entries.now in
    let i = c.loop-entry.invariant in
    let all = take_all c.loop-entry.entry-index es
    (omega (arith, c.loop-entry-test.false, c.loop-entry.auto.entry-index-end)) in
    c.end_table.ensures.made old es (
      c.len-first_member.ensures ∙ old.members.ok.0,
      c.len-first_key.ensures ∙ old.keys.ok.0,
      i.pieces,
      i.members ∙ ap (λ l. old.members.items ++ map (λ (e : Bor (List ℕ) × ℕ). e.1) l) all,
      i.keys ∙ ap (λ l. old.keys.items ++ map (λ (e : Bor (List ℕ) × ℕ). e.0) l) all,
    ) h

pub returns-clause-keeps : goal.returns-clause-keeps
returns-clause-keeps c =
    let old = c.args.draft.now in
    let es = c.args.entries.now in
    let i = c.loop-entry.invariant in
    let all = take_all c.loop-entry.entry-index es
    (omega (arith, c.loop-entry-test.false, c.loop-entry.auto.entry-index-end)) in
    when_ok c.end_table.result (c.end_table.ensures.keeps old es (
      c.len-first_member.ensures ∙ old.members.ok.0,
      c.len-first_key.ensures ∙ old.keys.ok.0,
      i.pieces,
      i.members ∙ ap (λ l. old.members.items ++ map (λ (e : Bor (List ℕ) × ℕ). e.1) l) all,
      i.keys ∙ ap (λ l. old.keys.items ++ map (λ (e : Bor (List ℕ) × ℕ). e.0) l) all,
    ))
