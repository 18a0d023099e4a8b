use Rattle.std.proofs.Common.{ap, ◌∙◌, ◌++◌, map, Bor, List, ℕ, arith, refl}
use Rattle.std.proofs.lemmas.List.{take_all}
use Rattle.resb_icu_text.proofs.drafts.push_entries.Goals as goal

pub returns : goal.returns
returns c =
    let old = c.args.draft.now in
    let es = c.args.entries.now in
    let i = c.loop-entry.invariant in
    let all = take_all c.loop-entry.entry-index es
    (omega (arith, c.loop-entry-test.false, c.loop-entry.auto.entry-index-end)) in (
      refl,
      refl,
      i.pieces,
      i.members ∙ ap (λ l. old.members.items ++ map (λ (e : Bor (List ℕ) × ℕ). e.1) l) all,
      i.keys ∙ ap (λ l. old.keys.items ++ map (λ (e : Bor (List ℕ) × ℕ). e.0) l) all,
    )
