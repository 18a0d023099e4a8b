use Rattle.std.proofs.Common.{[], ◌≡◌, ◌+◌, ℕ, List, Bor, false, arith, ◌∙◌, drop, get_or, refl}
use Rattle.std.proofs.Common.{length, length-drop}
use Rattle.std.proofs.lemmas.List.{drop_more}
use Rattle.resb_text.specs.declared.items.Item.{Item}
use Rattle.resb_text.specs.declared.items.Term.{Term}
use Rattle.resb_text.specs.declared.items.Term.TheVariants as terms
use Rattle.resb_text.proofs.PieceItems.{pushed_more, nothing_left}
use Rattle.resb_text.proofs.drafts.push_entries.Goals as goal

pub returns-clause-entries : goal.returns-clause-entries
returns-clause-entries c =
    let items = c.args.items.now in
    let d = c.loop-item.draft in
    let at = c.loop-item.item-index in
    let i = c.loop-item.invariant in
    let none : length (drop at items) ≡ 0 = omega (
      arith,
      length-drop at items,
      c.loop-item-test.false,
      c.loop-item.auto.item-index-end,
    ) in (
      refl,
      refl,
      i.pieces,
      nothing_left (λ (e : Bor (List ℕ) × ℕ). e.1) d.members.items c.loop-item.waiting
          (drop at items) none
          ∙ i.members,
      nothing_left (λ (e : Bor (List ℕ) × ℕ). e.0) d.keys.items c.loop-item.waiting
          (drop at items) none
          ∙ i.keys,
    )

pub loop-item-preserved : goal.loop-item-preserved
loop-item-preserved c =
    let i = c.loop-item.invariant in
    let items = c.args.items.now in
    let at = c.loop-item.item-index in
    let none : Term ℕ = terms.String (record { ref_ptr = (0, 0); now = [] }) in
    let d : Item ℕ = record { term = none; comma = false } in
    let item = get_or items at d in
    let split = drop_more items at d (omega arith) in
    let counted = c.tick.ensures in
    let pushed = c.in_ok-push_term.ensures in
    record {
      pieces = pushed.entries.2 ∙ i.pieces;
      members = pushed_more (λ (e : Bor (List ℕ) × ℕ). e.1) c.loop-item.draft.members.items _
          c.loop-item.waiting _ item (drop at items) (drop (at + 1) items) split pushed.next
          pushed.entries.3
          ∙ i.members;
      keys = pushed_more (λ (e : Bor (List ℕ) × ℕ). e.0) c.loop-item.draft.keys.items _
          c.loop-item.waiting _ item (drop at items) (drop (at + 1) items) split pushed.next
          pushed.entries.4
          ∙ i.keys;
      count = omega (arith, counted, i.count);
    }
