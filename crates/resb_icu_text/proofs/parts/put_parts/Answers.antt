use Rattle.std.proofs.Common.{◌++◌, arith, refl, sym, subst, ◌∙◌, ap}
use Rattle.resb_icu_text.proofs.LengthLemmas.{string_short}
use Rattle.resb_icu_text.proofs.PartsLemmas.{others_left, left_more, left_none}
use Rattle.resb_icu_text.proofs.SeveralLemmas.{strung_text, strung_first, strung_from, single_order}
use Rattle.resb_icu_text.proofs.SeveralLemmas.{text_of, strung_reach, strung_alone, strung_fits}
use Rattle.resb_icu_text.specs.Inner.Parts.{Single, gap}
use Rattle.resb_icu_text.proofs.parts.put_parts.Goals as goal

pub parts-init : goal.parts-init
parts-init c =
    let t = text_of c.requires.parts.1 in
    record {
      left = λ said t. record { rest = said; here = strung_text _ _ _ _ t; whole = refl };
      below = (string_short _ _ _ _ t).1;
      cost = omega arith;
    }

pub put_single-requires : goal.put_single-requires
put_single-requires c =
    let left = c.parts.invariant.left _ (text_of c.requires.parts.1) in
    let first = strung_first _ _ _ _ left.here in
    record { stands = (first.0, first.1, first.2) }

pub returns-in_err-to-clause-cost : goal.returns-in_err-to-clause-cost
returns-in_err-to-clause-cost c =
    let left = c.parts.invariant.left _ (text_of c.requires.parts.1) in
    let first = strung_first _ _ _ _ left.here in
    omega (arith, c.in_err-to.ensures.cost first.0 first.1 first.2, first.3, c.parts.invariant.cost)

pub returns-then-to-end-clause-value : goal.returns-then-to-end-clause-value
returns-then-to-end-clause-value c = λ said t.
    let put = c.in_ok-to.ensures.value in
    let g = subst (λ i. Single c.args.text.now c.parts.at i put.0) c.if-to-end.true put.1 in
    left_none put.0 _ (λ s k. strung_alone _ _ _ _ _ g k) put.2 (c.parts.invariant.left said t)

pub returns-then-to-end-clause-cost : goal.returns-then-to-end-clause-cost
returns-then-to-end-clause-cost c =
    let put = c.in_ok-to.ensures.value in
    omega (
      arith,
      c.in_ok-to.ensures.cost _ put.0 put.1,
      c.parts.invariant.cost,
      c.if-to-end.true,
    )

pub skip-next-requires : goal.skip-next-requires
skip-next-requires c =
    let left = c.parts.invariant.left _ (text_of c.requires.parts.1) in
    let put = c.in_ok-to.ensures.value in
    let fits = strung_fits _ _ _ _ _ _ put.1 left.here in
    record { within = omega (arith, fits, c.requires.within) }

pub returns-in_err-put_gap-clause-cost : goal.returns-in_err-put_gap-clause-cost
returns-in_err-put_gap-clause-cost c =
    let left = c.parts.invariant.left _ (text_of c.requires.parts.1) in
    let put = c.in_ok-to.ensures.value in
    let skip = c.skip-next.ensures.skip in
    let next = others_left c.skip-next.result
    (strung_from _ _ _ c.skip-next.result _ put.0 _ put.1 skip left.here) c.if-to-end.false skip in
    omega (
      arith,
      c.in_ok-to.ensures.cost _ put.0 put.1,
      c.parts.invariant.cost,
      c.skip-next.ensures.cost,
      strung_reach c.args.text.now c.skip-next.result _ _ next.1,
      next.4,
    )

pub parts-smaller : goal.parts-smaller
parts-smaller c =
    let put = c.in_ok-to.ensures.value in
    omega (
      arith,
      single_order _ _ _ _ put.1,
      c.skip-next.ensures.order,
      c.parts.invariant.below,
    )

pub parts-preserved : goal.parts-preserved
parts-preserved c =
    let left = c.parts.invariant.left _ (text_of c.requires.parts.1) in
    let put = c.in_ok-to.ensures.value in
    let skip = c.skip-next.ensures.skip in
    let between = gap c.args.text.now c.parts.at c.skip-next.result in
    let next = others_left c.skip-next.result
    (strung_from _ _ _ c.skip-next.result _ put.0 _ put.1 skip left.here) c.if-to-end.false skip in
    record {
      left = λ said t. left_more put.0 between _
          (λ s r. (let o = others_left c.skip-next.result
          (strung_from _ _ _ c.skip-next.result _ put.0 s put.1 skip r) c.if-to-end.false skip in
          (o.0, o.1, o.2)))
          (c.in_ok-put_gap.ensures ∙ ap (λ u. u ++ between) put.2)
          (c.parts.invariant.left said t);
      below = next.4;
      cost = omega (
        arith,
        c.in_ok-to.ensures.cost _ put.0 put.1,
        c.parts.invariant.cost,
        c.skip-next.ensures.cost,
        strung_reach c.args.text.now c.skip-next.result _ _ next.1,
      );
    }
