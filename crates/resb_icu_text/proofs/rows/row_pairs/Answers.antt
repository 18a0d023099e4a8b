use Rattle.std.proofs.Common.{◌++◌, [], arith, sym, ap, length, ◌∙◌, refl, length-append}
use Rattle.resb_grammar.specs.Group.{hex_bytes}
use Rattle.resb_icu_text.proofs.LengthLemmas.{row_order}
use Rattle.resb_icu_text.proofs.RowLemmas.{pairs_first, pairs_none, pairs_over, pairs_more}
use Rattle.resb_icu_text.proofs.rows.row_pairs.Goals as goal

pub row-init : goal.row-init
row-init c = record {
  left = λ said r. ([], refl, pairs_first c.args.text.now c.args.from c.args.end said r);
  below = row_order _ _ _ _ c.requires.row.1;
  counted = omega arith;
}

pub string_of_row-next-requires-clause-row : goal.string_of_row-next-requires-clause-row
string_of_row-next-requires-clause-row c =
    let left = (c.row.invariant.left _ c.requires.row.1).2 in (left.rest, left.row)

pub returns-in_default : goal.returns-in_default
returns-in_default c = λ said r.
    pairs_none c.string_of_row-next.ensures.reads
    (ap hex_bytes (sym c.as_bytes.ensures.value) ∙ rw c.in_default.is at c.pairs_in.ensures)
    (c.row.invariant.left said r).2

pub returns-then-next-end : goal.returns-then-next-end
returns-then-next-end c = λ said r.
    let pairs = rw c.in-Some.is at c.pairs_in.ensures in
    let left = c.row.invariant.left said r in (
      left.0 ++ pairs.0,
      pairs_over c.string_of_row-next.ensures.reads pairs.0
          (ap hex_bytes (sym c.as_bytes.ensures.value) ∙ pairs.1) c.if-next-end.true left.2,
      omega (arith, length-append left.0 pairs.0, left.1, pairs.2),
    )

pub row-preserved : goal.row-preserved
row-preserved c =
    let pairs = rw c.in-Some.is at c.pairs_in.ensures in
    record {
      left = λ said r. (
          let left = c.row.invariant.left said r in (
            left.0 ++ pairs.0,
            omega (arith, length-append left.0 pairs.0, left.1, pairs.2),
            pairs_more c.string_of_row-next.ensures.reads pairs.0 _
                (ap hex_bytes (sym c.as_bytes.ensures.value) ∙ pairs.1) c.if-next-end.false refl
                left.2,
          ));
      below = omega (arith, c.string_of_row-next.ensures.order, c.if-next-end.false);
      counted = omega (
        arith,
        c.row.invariant.counted,
        pairs.3,
        ap length c.as_bytes.ensures.value,
        c.string_of_row-next.ensures.short,
      );
    }
