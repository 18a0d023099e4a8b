use Rattle.std.proofs.Common.{◌≡◌, ◌+◌, [], ◌∷◌, ◌++◌, List, ℕ, arith, sym, ◌∙◌, refl, ap, length}
use Rattle.std.proofs.lemmas.List.{length-append}
use Rattle.resb_grammar.specs.Ascii as ascii
use Rattle.resb_icu_grammar.specs.Faults.{later_part}
use Rattle.resb_icu_grammar.specs.Words.{one_part, more_parts}
use Rattle.resb_icu_text.specs.Inner.Found.{OfParts}
use Rattle.resb_icu_text.proofs.LengthLemmas.{several_long}
use Rattle.resb_icu_text.proofs.PartsLemmas.{walked_none, walked_more}
use Rattle.resb_icu_text.proofs.QuotaLemmas.{match_fails}
use Rattle.resb_icu_text.proofs.ReachLemmas.{reach_begun}
use Rattle.resb_icu_text.proofs.SeveralLemmas.{begun_next, begun_fault, counted_first, counted_with}
use Rattle.resb_icu_text.proofs.SeveralLemmas.{counted_more, counted_fits}
use Rattle.resb_icu_text.proofs.StringsLemmas.{of_parts}
use Rattle.resb_icu_text.proofs.parts.with_more.Goals as goal

pub parts-init : goal.parts-init
parts-init c =
    let is = c.requires.part in
    let follows = c.requires.follows is in
    record {
      order = omega (arith, is.after, is.order);
      past = omega arith;
      fits = is.fits;
      begun = begun_next _ _ _ _ _ is.part follows;
      counted = counted_first _ _ _ _ _ _ is.part is.order follows
          (omega (arith, is.counted, c.length-length.ensures));
      walked = (0, walked_none, omega (arith, c.length-length.ensures));
      fault = λ to x f. later_part _ _ _ _ _ _ is.part is.blanks follows f;
      cost = omega arith;
    }

pub returns-in_err-part-clause-reads : goal.returns-in_err-part-clause-reads
returns-in_err-part-clause-reads c =
    match_fails _ _ _ c.from_residual.ensures.1 (c.parts.invariant.fault _ _
    (begun_fault _ _ _ _ c.parts.invariant.begun c.in_err-part.ensures.reads))

pub returns-in_err-part-clause-cost : goal.returns-in_err-part-clause-cost
returns-in_err-part-clause-cost c =
    let is = c.requires.part in
    let follows = c.requires.follows is in
    match_fails _ _ _ c.from_residual.ensures.1 (omega (
      arith,
      c.in_err-part.ensures.cost,
      c.parts.invariant.cost,
      c.parts.invariant.past,
      reach_begun c.args.text.now c.parts.at c.parts.invariant.begun,
      reach_begun c.args.text.now c.args.first.next (begun_next _ _ _ _ _ is.part follows),
    ))

pub overflow_add-length-in-parts : goal.overflow_add-length-in-parts
overflow_add-length-in-parts c =
    let is = c.in_ok-part.ensures.reads in
    omega (
      arith,
      counted_with _ _ _ _ _ _ is.part c.parts.invariant.counted,
      is.counted,
      c.length-length.ensures,
      is.order,
      is.fits,
    )

pub overflow_add-length-then-another_follows : goal.overflow_add-length-then-another_follows
overflow_add-length-then-another_follows c =
    let is = c.in_ok-part.ensures.reads in
    let follows = sym (c.another_follows.ensures is) ∙ c.if-another_follows.true in
    omega (
      arith,
      counted_fits c.args.text.now c.args.from c.in_ok-part.part.next
          (c.parts.length + length is.said + 1) is.fits
          (counted_more _ _ _ _ _ _ _ _ is.part is.order follows c.parts.invariant.counted refl),
      is.counted,
      c.length-length.ensures,
    )

pub parts-preserved : goal.parts-preserved
parts-preserved c =
    let is = c.in_ok-part.ensures.reads in
    let follows = sym (c.another_follows.ensures is) ∙ c.if-another_follows.true in
    let old = c.parts.invariant in
    record {
      order = omega (arith, old.order, is.after, is.order);
      past = omega (arith, old.past, is.after, is.order);
      fits = is.fits;
      begun = begun_next _ _ _ _ _ is.part follows;
      counted = counted_more _ _ _ _ _ _ _ _ is.part is.order follows old.counted
          (omega (arith, is.counted, c.length-length.ensures));
      walked = (
        old.walked.0 + length is.said + 1,
        walked_more is.said (ascii.space ∷ []) is.part
            (λ to later t. more_parts _ _ _ to _ later is.part is.blanks follows t) refl is.order
            (omega (arith, is.after, is.order)) old.walked.1,
        omega (arith, old.walked.2, is.counted, c.length-length.ensures),
      );
      fault = λ to x f. old.fault to x (later_part _ _ _ _ _ _ is.part is.blanks follows f);
      cost = omega (
        arith,
        old.cost,
        c.in_ok-part.ensures.cheap,
        reach_begun c.args.text.now c.in_ok-part.part.next
            (begun_next _ _ _ _ _ is.part follows),
      );
    }

pub returns-else-another_follows-clause-reads : goal.returns-else-another_follows-clause-reads
returns-else-another_follows-clause-reads c =
    let first = c.requires.part in
    let follows = c.requires.follows first in
    let is = c.in_ok-part.ensures.reads in
    let ends = sym (c.another_follows.ensures is) ∙ c.if-another_follows.false in
    let old = c.parts.invariant in
    let later = old.walked.1.said ++ is.said in
    let rest = old.walked.1.on _ _ (one_part _ _ _ _ is.part is.blanks ends) in
    of_parts _ _ _ _ _ (first.said ++ ascii.space ∷ later) (record {
      mid = _;
      next = _;
      first = first.said;
      later = later;
      part = first.part;
      after = first.blanks;
      more = follows;
      rest = rest;
      means = refl;
    })
    (omega (
      arith,
      old.walked.2,
      old.walked.1.counted,
      first.counted,
      is.counted,
      c.length-length.ensures,
      length-append first.said (ascii.space ∷ later),
      length-append old.walked.1.said is.said,
    ))
    is.blanks is.order is.fits

pub returns-else-another_follows-clause-long : goal.returns-else-another_follows-clause-long
returns-else-another_follows-clause-long c =
    let first = c.requires.part in
    let follows = c.requires.follows first in
    let is = c.in_ok-part.ensures.reads in
    let ends = sym (c.another_follows.ensures is) ∙ c.if-another_follows.false in
    let rest = c.parts.invariant.walked.1.on _ _ (one_part _ _ _ _ is.part is.blanks ends) in
    several_long _ _ _ _ _ _ _ first.part first.blanks follows rest

pub returns-else-another_follows-clause-cost : goal.returns-else-another_follows-clause-cost
returns-else-another_follows-clause-cost c =
    let first = c.requires.part in
    let follows = c.requires.follows first in
    omega (
      arith,
      c.parts.invariant.cost,
      c.in_ok-part.ensures.cheap,
      reach_begun c.args.text.now c.args.first.next (begun_next _ _ _ _ _ first.part follows),
    )
