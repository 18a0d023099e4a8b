use Rattle.std.proofs.Common.{◌≡◌, ◌+◌, ◌++◌, ◌∷◌, ℕ, false, [], arith, drop, get_or, length, ◌∙◌}
use Rattle.std.proofs.Common.{ap, refl, subst, sym}
use Rattle.std.proofs.lemmas.List.{drop_more, drop_all, drop-append-le, length-append}
use Rattle.resb_draft.proofs.Standing.{keeps_on}
use Rattle.resb_text.specs.declared.items.Item.{Item}
use Rattle.resb_text.specs.declared.items.Term.{Term}
use Rattle.resb_text.specs.declared.items.Term.TheVariants as terms
use Rattle.resb_text.proofs.PieceItems.{ListsNumbers, lists_more}
use Rattle.resb_text.proofs.drafts.push_members.Goals as goal

-- nothing is listed yet in the room that was asked for
pub loop-item-init : goal.loop-item-init
loop-item-init c =
    let first = c.args.draft.now in
    let mid = c.reserve.new.self in
    let from = length first.members.items in
    let same = c.in_ok-reserve.ensures.members in
    let items = c.args.items.now in
    let none : drop from mid.members.items ≡ [] = drop_all from mid.members.items
    (omega (arith, ap length same)) in
    record {
      made = λ h. subst (λ ns. ListsNumbers first mid ns items items) (sym none) (refl, refl, h);
      longer = omega (arith, ap length same);
      keeps = c.in_ok-reserve.ensures.keeps;
      count = omega arith;
    }

pub loop-item-preserved : goal.loop-item-preserved
loop-item-preserved c =
    let i = c.loop-item.invariant in
    let items = c.args.items.now in
    let at = c.loop-item.item-index in
    let none : Term ℕ = terms.String (record { ref_ptr = (0, 0); now = [] }) in
    let d : Item ℕ = record { term = none; comma = false } in
    let item = get_or items at d in
    let split = drop_more items at d (omega arith) in
    let counted = c.tick.ensures in
    let first = c.args.draft.now in
    let old = c.loop-item.draft in
    let mid = c.piece_of.new.draft in
    let new = c.push_member.new.self in
    let more = c.in_ok-piece.ensures in
    let n = c.in_ok-piece.piece in
    let from = length first.members.items in
    let had = old.members.items in
    let longer = i.longer in
    let is = c.in_ok-push_member.ensures.members
    ∙ ap (λ v. v.items ++ n ∷ []) more.members in
    record {
      made = λ h. lists_more first old mid new (drop from had) _ item n (drop at items)
          (drop (at + 1) items) items i.keeps more.keeps c.in_ok-push_member.ensures.keeps split
          (ap (drop from) is ∙ drop-append-le from had (n ∷ []) longer) (more.made item.comma)
          (i.made h);
      longer = omega (arith, longer, ap length is, length-append had (n ∷ []));
      keeps = keeps_on first mid new (keeps_on first old mid i.keeps more.keeps)
          c.in_ok-push_member.ensures.keeps;
      count = omega (arith, counted, i.count);
    }
