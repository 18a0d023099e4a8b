use Rattle.std.proofs.Common.{◌∙◌, ◌≡◌, sym, map, get_or, take, drop, length-drop, arith}
use Rattle.std.proofs.lemmas.List.{take-append-drop, length-take-le}
use Rattle.std.proofs.lemmas.Result.{IfOk-weaker}
use Rattle.resb_tree.specs.Tree.{array, trees_of}
use Rattle.resb_draft.specs.Drafts.{nothing, piece_meaning, pieces_stand, texts, IsMade, tree_at}
use Rattle.resb_draft.specs.declared.draft.Members.{Members}
use Rattle.resb_draft.specs.declared.draft.Piece.TheVariants as piece
use Rattle.resb_draft.proofs.Standing.{agrees_same, made_of}
use Rattle.resb_draft.proofs.Made.{array_made}
use Rattle.resb_draft.proofs.draft.Draft.end_array.Goals as goal

pub returns-clause-made : goal.returns-clause-made
returns-clause-made c = λ h.
    let old = c.args.self.now in
    let all = old.members.items in
    let at = c.args.first_member in
    let ns = drop at all in
    let m : Members = record { from = c.in_ok-number.field-0; count = c.in_ok-number-2.field-0 } in
    let t = array (trees_of (map (tree_at old) ns)) in
    let from = c.in_ok-number.ensures in
    let many = c.in_ok-number-2.ensures in
    let len = c.len.ensures in
    let ok = old.members.ok.0 in
    let inside = c.requires in
    IfOk-weaker c.push.result
    (λ n. get_or (pieces_stand c.push.new.self) n nothing
    ≡ piece_meaning all (texts old.keys.items) (pieces_stand old) (piece.Array m))
    (λ n. IsMade c.push.new.self n t)
    (λ n e. made_of c.push.new.self n t
    (e ∙ array_made old old (take at all) ns m (sym (take-append-drop at all))
    (from ∙ sym (length-take-le at all inside))
    (omega (arith, many, len, ok, length-drop at all)) (agrees_same (pieces_stand old)) h))
    c.push.ensures.made
