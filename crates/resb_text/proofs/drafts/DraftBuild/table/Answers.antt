use Rattle.std.proofs.Common.{ap, ◌∙◌, ◌++◌, map, Bor, List, ℕ}
use Rattle.std.specs.Prelude.{None}
use Rattle.std.proofs.lemmas.Result.{IfOk-weaker}
use Rattle.resb_tree.specs.Tree.{table, map_of}
use Rattle.resb_draft.specs.Drafts.{tree_at, is_whole, IsMade, EndsInEntries}
use Rattle.resb_text.specs.Inner.Build.{Adds}
use Rattle.resb_text.specs.Inner.Drafts.{piece_item_seen, entries_seen, entries_after}
use Rattle.resb_text.specs.Inner.Shown.{shown_pairs}
use Rattle.resb_text.proofs.PieceItems.{entries_show, entries_whole}
use Rattle.resb_text.proofs.drafts.DraftBuild.table.Goals as goal

pub returns-clause-made : goal.returns-clause-made
returns-clause-made c = λ h.
    let d = c.args.self.now in
    let items = c.args.items.now.items in
    let new = c.end_table.new.self in
    let es = entries_after None items in
    let pushed = c.in_ok-push_entries.ensures.entries in
    let all = ap (entries_after None) c.deref.ensures.value in
    let ends : EndsInEntries d c.len-first_member.result c.len-first_key.result es
    c.push_entries.new.draft = (
      c.len-first_member.ensures ∙ d.members.ok.0,
      c.len-first_key.ensures ∙ d.keys.ok.0,
      pushed.2,
      pushed.3 ∙ ap (λ ps. d.members.items ++ map (λ (e : Bor (List ℕ) × ℕ). e.1) ps) all,
      pushed.4 ∙ ap (λ ps. d.keys.items ++ map (λ (e : Bor (List ℕ) × ℕ). e.0) ps) all,
    ) in
    IfOk-weaker c.end_table.result
    (λ n. IsMade new n (table (map_of (entries_seen d es))))
    (λ n. Adds tree_at is_whole d new n
    (table (map_of (shown_pairs (map (piece_item_seen d) items)))))
    (λ n made. (
      (made.0 ∙ ap (λ ps. table (map_of ps)) (entries_show d None items), made.1),
      c.end_table.ensures.keeps d es ends,
    ))
    (c.end_table.ensures.made d es ends (entries_whole d None items h))
