use Rattle.std.proofs.Common.{◌++◌, Some, arith, sym, ap, ◌∙◌, subst}
use Rattle.resb_icu_text.proofs.LengthLemmas.{row_order}
use Rattle.resb_icu_text.proofs.RowLemmas.{PairsLeft, pairs_first, pairs_none, pairs_over}
use Rattle.resb_icu_text.proofs.RowLemmas.{pairs_more}
use Rattle.resb_icu_text.proofs.rows.row_bytes.Goals as goal

pub row-init : goal.row-init
row-init c = record {
  left = λ said r. subst (λ l. PairsLeft c.args.text.now c.args.from c.args.end l said)
      (sym c.new-bytes.ensures.items) (pairs_first c.args.text.now c.args.from c.args.end said r);
  below = row_order _ _ _ _ c.requires.row.1;
  cost = omega arith;
}

pub string_of_row-next-requires-clause-row : goal.string_of_row-next-requires-clause-row
string_of_row-next-requires-clause-row c =
    let left = c.row.invariant.left _ c.requires.row.1 in (left.rest, left.row)

pub unreachable-requires : goal.unreachable-requires
unreachable-requires c =
    let none = rw c.in_default.is at c.in_ok-pairs.ensures.none in
    let said = sym (pairs_none c.string_of_row-next.ensures.reads none
    (c.row.invariant.left _ c.requires.row.1)) ∙ c.requires.row.3 in
    absurd cc

pub returns-then-next-end-clause-bytes : goal.returns-then-next-end-clause-bytes
returns-then-next-end-clause-bytes c = λ said r.
    pairs_over c.string_of_row-next.ensures.reads _ (rw c.in-Some.is at c.in_ok-pairs.ensures.found)
    c.if-next-end.true (c.row.invariant.left said r)
    ∙ ap (λ l. Some l) (sym (c.in_ok-extend_from_slice.ensures.items
    ∙ ap (λ l. c.row.bytes.items ++ l) c.deref.ensures.value))

pub row-preserved : goal.row-preserved
row-preserved c = record {
  left = λ said r. pairs_more c.string_of_row-next.ensures.reads _ _
      (rw c.in-Some.is at c.in_ok-pairs.ensures.found) c.if-next-end.false
      (c.in_ok-extend_from_slice.ensures.items
      ∙ ap (λ l. c.row.bytes.items ++ l) c.deref.ensures.value) (c.row.invariant.left said r);
  below = omega (arith, c.string_of_row-next.ensures.order, c.if-next-end.false);
  cost = omega (arith, c.row.invariant.cost, c.string_of_row-next.ensures.cost);
}
