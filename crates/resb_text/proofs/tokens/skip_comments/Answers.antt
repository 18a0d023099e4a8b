use Rattle.resb_grammar.specs.Lexical.{comment}
use Rattle.std.proofs.Common.{arith}
use Rattle.std.proofs.lemmas.Bool.Decides.{nat_tests}
use Rattle.resb_text.proofs.LexicalLemmas.{run_blanks, skip_ends, no_comment_at}
use Rattle.resb_text.proofs.tokens.skip_comments.Goals as goal

pub comments-preserved : goal.comments-preserved
comments-preserved c = record {
  order = omega (arith, c.in-Some.ensures.cost);
  fits = c.skip_blanks-at.ensures.run.fits;
  stands = cc;
  so_far =
      λ end rest. c.comments.invariant.so_far end (comment _ _ end c.in-Some.ensures.found
      (run_blanks _ _ _ end c.skip_blanks-at.ensures.run rest));
  cost = omega (arith, c.in-Some.ensures.cost);
}

pub returns-then-b-ne47-clause-skip : goal.returns-then-b-ne47-clause-skip
returns-then-b-ne47-clause-skip c =
    skip_ends _ _ _ c.skip_blanks-at.ensures.run.longest
    (no_comment_at _ _ (rw (← c.skip_blanks-at.ensures.byte) c.if-b-ne47.true))
    (λ end rest. c.comments.invariant.so_far end (comment _ _ end c.in-Some.ensures.found
    (run_blanks _ _ _ end c.skip_blanks-at.ensures.run rest)))

pub returns-in_default-clause-skip : goal.returns-in_default-clause-skip
returns-in_default-clause-skip c =
    let stands = c.comments.invariant.stands in
    skip_ends _ _ _ (grind (arith, nat_tests, stands))
    c.in_default.ensures.found c.comments.invariant.so_far
