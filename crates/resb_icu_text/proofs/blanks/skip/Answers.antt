use Rattle.std.proofs.Common.{arith, ◌∙◌}
use Rattle.std.proofs.lemmas.Bool.Decides.{nat_tests}
use Rattle.resb_icu_text.proofs.ReachLemmas.{reach_here, no_slash}
use Rattle.resb_icu_text.proofs.BlanksLemmas.{skip_ends, no_comment_at}
use Rattle.resb_icu_text.proofs.blanks.skip.Goals as goal

pub returns-then-b-ne47-clause-skip : goal.returns-then-b-ne47-clause-skip
returns-then-b-ne47-clause-skip c =
    let space = c.behind_space-at.ensures in
    skip_ends c.args.text.now c.args.from c.args.from c.behind_space-at.result
    (record {
      order = space.order;
      fits = space.fits;
      each = space.each;
      longest = grind (arith, nat_tests, c.byte-b.ensures.byte, c.if-b-gt32.true);
    })
    (no_comment_at _ _
    (no_slash c.args.text.now c.behind_space-at.result (λ e. c.if-b-ne47.true (c.byte-b.ensures.byte ∙ e)))) (λ to h. h)

pub returns-then-b-ne47-clause-cost : goal.returns-then-b-ne47-clause-cost
returns-then-b-ne47-clause-cost c =
    omega (
      arith,
      reach_here c.args.text.now c.behind_space-at.result
          (no_slash c.args.text.now c.behind_space-at.result (λ e. c.if-b-ne47.true (c.byte-b.ensures.byte ∙ e))),
    )
