use Rattle.std.proofs.Common.{[], sym, ◌∙◌, ap, arith, length}
use Rattle.std.proofs.lemmas.Bool.{and_parts}
use Rattle.std.specs.Prelude.{map}
use Rattle.std.specs.Vec.Iter.{into_iter_items}
use Rattle.resb_tree.specs.Borrowing.{all_true}
use Rattle.resb_text.specs.Inner.Shown.{seen_in_code, pairs_after, shown_pairs, shown_borrowed}
use Rattle.resb_text.specs.Inner.Shown.{waiting_key}
use Rattle.resb_text.proofs.ShownLemmas.{no_pairs_left, term_borrowed_shown}
use Rattle.resb_text.proofs.trees.put_terms.Goals as goal

pub returns-clause-ok : goal.returns-clause-ok
returns-clause-ok g c =
    let left = no_pairs_left seen_in_code (waiting_key c.loop-item.waiting)
    (into_iter_items c.loop-item.item-iterator) []
    (let ok = c.loop-item.item-iterator.rest.ok in
    omega (arith, ok, c.in-None.ensures.steps.0)) in
    ap (g.E.TakesEntries.map_with c.loop-item.entries) (sym left) ∙ c.loop-item.invariant.made
    ∙ ap (λ xs. g.E.TakesEntries.map_with c.args.entries.now (shown_pairs (map seen_in_code xs)))
    c.into_iter-item-iterator.ensures.into_iter_gives.0

pub returns-clause-borrowed : goal.returns-clause-borrowed
returns-clause-borrowed g c = λ h old.
    (c.loop-item.invariant.borrowed (ap (λ xs. all_true (map shown_borrowed (map seen_in_code xs)))
    c.into_iter-item-iterator.ensures.into_iter_gives.0 ∙ h) old).0

pub loop-item-preserved : goal.loop-item-preserved
loop-item-preserved g c =
    let i = c.loop-item.invariant in
    let item = c.in-Some.item in
    let rest = into_iter_items c.next.new.self in
    let steps = c.in-Some.ensures.steps.0 in
    let one = ap length steps in
    let counted = c.tick.ensures in
    let put = c.in_ok-put_term.ensures in
    record {
      made = put.ok item.comma (map seen_in_code rest)
          ∙ ap (λ xs. g.E.TakesEntries.map_with c.loop-item.entries
          (pairs_after (waiting_key c.loop-item.waiting) (map seen_in_code xs))) (sym steps)
          ∙ i.made;
      borrowed = λ h old.
          let left = rw steps at (i.borrowed h old).1 in
          let parts = and_parts (shown_borrowed (seen_in_code item)) _ left in (
            put.borrowed (term_borrowed_shown item.term item.comma ∙ parts.0) (i.borrowed h old).0,
            parts.1,
          );
      count = omega (arith, counted, i.count, one);
    }
