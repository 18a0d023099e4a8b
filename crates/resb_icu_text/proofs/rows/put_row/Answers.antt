use Rattle.std.proofs.Common.{◌++◌, arith, ap, ◌∙◌, refl, lit≤, ◌∷◌, []}
use Rattle.std.proofs.lemmas.Str.{encode_ascii}
use Rattle.std.specs.String.{string_bytes}
use Rattle.resb_icu_text.proofs.LengthLemmas.{row_order}
use Rattle.resb_icu_text.proofs.PartsLemmas.{left_more, left_none}
use Rattle.resb_icu_text.proofs.rows.put_row.Goals as goal

pub row-init : goal.row-init
row-init c = record {
  left = λ said r. record { rest = said; here = r; whole = refl };
  below = row_order _ _ _ _ c.requires.row.1;
  cost = omega arith;
}

pub string_of_row-next-requires-clause-row : goal.string_of_row-next-requires-clause-row
string_of_row-next-requires-clause-row c =
    let left = c.row.invariant.left _ c.requires.row.1 in (left.rest, left.here)

pub returns-then-next-end-clause-value : goal.returns-then-next-end-clause-value
returns-then-next-end-clause-value c = λ said r.
    left_none _ _ (c.string_of_row-next.ensures.reads.last c.if-next-end.true)
    c.in_ok-push_str.ensures.bytes (c.row.invariant.left said r)

pub row-preserved : goal.row-preserved
row-preserved c = record {
  left = λ said r. left_more _ (32 ∷ []) _
      (c.string_of_row-next.ensures.reads.on c.if-next-end.false)
      (c.in_ok-push.ensures.bytes ∙ ap (λ l. string_bytes c.push_str.new.self ++ l)
      (encode_ascii 32 (lit≤ tt)) ∙ ap (λ l. l ++ 32 ∷ []) c.in_ok-push_str.ensures.bytes)
      (c.row.invariant.left said r);
  below = omega (arith, c.string_of_row-next.ensures.order, c.if-next-end.false);
  cost = omega (arith, c.row.invariant.cost, c.string_of_row-next.ensures.cost);
}
