use Rattle.std.proofs.Common.{◌∙◌, ◌≡◌, ◌++◌, sym, ap, map, get_or, take, length, length-drop}
use Rattle.std.proofs.Common.{arith, Bor, List, ℕ}
use Rattle.std.proofs.lemmas.List.{take-append-drop, length-take-le, length-map}
use Rattle.std.proofs.lemmas.Result.{IfOk-weaker}
use Rattle.resb_tree.specs.Tree.{table, entries_of}
use Rattle.resb_draft.specs.Drafts.{nothing, piece_meaning, pieces_stand, texts, IsMade, tree_at}
use Rattle.resb_draft.specs.declared.draft.Members.{Members}
use Rattle.resb_draft.specs.declared.draft.Piece.TheVariants as piece
use Rattle.resb_draft.proofs.Standing.{agrees_same, made_of}
use Rattle.resb_draft.proofs.Made.{table_made}
use Rattle.resb_draft.proofs.draft.Draft.end_ascending.Goals as goal

pub returns-clause-made : goal.returns-clause-made
returns-clause-made c = λ ps own keys ascend h.
    let old = c.args.self.now in
    let all = old.members.items in
    let names = old.keys.items in
    let at = c.args.first_member in
    let first = c.args.first_key in
    let m : Members = record { from = c.in_ok-number.field-0; count = c.in_ok-number-2.field-0 } in
    let t = table (entries_of (map (λ (p : Bor (List ℕ) × ℕ). (p.0.now, tree_at old p.1)) ps)) in
    let many = c.in_ok-number-2.ensures in
    let len = c.len.ensures in
    let ok = old.members.ok.0 in
    IfOk-weaker c.push.result
    (λ n. get_or (pieces_stand c.push.new.self) n nothing
    ≡ piece_meaning all (texts names) (pieces_stand old)
    (piece.Table m c.in_ok-first_key.first_key))
    (λ n. IsMade c.push.new.self n t)
    (λ n e. made_of c.push.new.self n t
    (e ∙ table_made old old (take at all) (take first names) ps m c.in_ok-first_key.first_key
    (sym (take-append-drop at all) ∙ ap (λ l. take at all ++ l) own)
    (sym (take-append-drop first names) ∙ ap (λ l. take first names ++ l) keys)
    (c.in_ok-number.ensures ∙ sym (length-take-le at all c.requires.members))
    (c.in_ok-first_key.ensures ∙ sym (length-take-le first names c.requires.keys))
    (omega (
      arith,
      many,
      len,
      ok,
      length-drop at all,
      ap length own,
      length-map ps (λ (p : Bor (List ℕ) × ℕ). p.1),
    )) (agrees_same (pieces_stand old)) ascend h))
    c.push.ensures.made
