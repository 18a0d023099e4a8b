use Rattle.std.proofs.Common.{arith}
use Rattle.resb_icu_text.proofs.ReachLemmas.{reach_high, reach_at_word}
use Rattle.resb_icu_text.proofs.types.group_type.Goals as goal

pub returns-in_default-clause-most : goal.returns-in_default-clause-most
returns-in_default-clause-most c =
    omega (
      arith,
      reach_high c.args.text.now c.skip-place.result c.skip-place.ensures.fits,
      c.skip-place.ensures.cost,
      c.in_default.ensures.one,
    )

pub returns-in-Some-icu_kind_named-clause-cost : goal.returns-in-Some-icu_kind_named-clause-cost
returns-in-Some-icu_kind_named-clause-cost c =
    let word = c.in-Some.ensures.found in
    omega (
      arith,
      reach_at_word c.args.text.now c.skip-place.result _ _ word,
      word.some,
      c.skip-place.ensures.cost,
      c.in-Some.ensures.cost,
    )

pub returns-in-None-clause-most : goal.returns-in-None-clause-most
returns-in-None-clause-most c =
    let word = c.in-Some.ensures.found in
    omega (
      arith,
      reach_at_word c.args.text.now c.skip-place.result _ _ word,
      word.some,
      word.run.fits,
      c.skip-place.ensures.cost,
      c.in-Some.ensures.cost,
    )
