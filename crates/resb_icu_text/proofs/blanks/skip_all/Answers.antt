use Rattle.std.proofs.Common.{arith, sym, ◌∙◌}
use Rattle.resb_icu_text.proofs.ReachLemmas.{reach_here, reach_comment}
use Rattle.resb_icu_text.proofs.BlanksLemmas.{white_more, comment_more, skip_ends, no_comment_at}
use Rattle.resb_icu_text.proofs.blanks.skip_all.Goals as goal

pub skip-preserved : goal.skip-preserved
skip-preserved c =
    let run = rw c.as_bytes.ensures.value at c.blanks_end-white.ensures in
    record {
      order = omega (arith, c.in-Some.ensures.within.0, run.order);
      fits = c.in-Some.ensures.within.1;
      so_far = comment_more _ _ _ _ c.in-Some.ensures.found
          (white_more _ _ _ _ run c.skip.invariant.so_far);
      cost = omega (arith, c.in-Some.ensures.within.0);
    }

pub returns-in-None-clause-skip : goal.returns-in-None-clause-skip
returns-in-None-clause-skip c =
    let run = rw c.as_bytes.ensures.value at c.blanks_end-white.ensures in
    skip_ends _ _ _ _ run c.in-None.ensures.none c.skip.invariant.so_far

pub returns-then-not-begins_comment-clause-skip : goal.returns-then-not-begins_comment-clause-skip
returns-then-not-begins_comment-clause-skip c =
    let run = rw c.as_bytes.ensures.value at c.blanks_end-white.ensures in
    skip_ends _ _ _ _ run
    (no_comment_at _ _ (sym c.begins_comment.ensures ∙ c.if-not-begins_comment.true))
    c.skip.invariant.so_far

pub returns-in-None-clause-cost : goal.returns-in-None-clause-cost
returns-in-None-clause-cost c =
    let run = rw c.as_bytes.ensures.value at c.blanks_end-white.ensures in
    omega (
      arith,
      reach_comment c.args.text.now c.blanks_end-white.result
          (sym c.begins_comment.ensures ∙ c.if-not-begins_comment.false),
    )

pub returns-then-not-begins_comment-clause-cost : goal.returns-then-not-begins_comment-clause-cost
returns-then-not-begins_comment-clause-cost c =
    let run = rw c.as_bytes.ensures.value at c.blanks_end-white.ensures in
    omega (
      arith,
      reach_here c.args.text.now c.blanks_end-white.result
          (sym c.begins_comment.ensures ∙ c.if-not-begins_comment.true),
    )
