use Rattle.std.proofs.lemmas.Option.{IfSome_then}
use Rattle.resb_icu_text.proofs.BlanksLemmas.{no_line_comment, no_block_comment, block_comment}
use Rattle.resb_icu_text.proofs.blanks.comment_end.Goals as goal
use Rattle.resb_grammar.proofs.Lists.{if_none}

pub returns-in-47-clause-none : goal.returns-in-47-clause-none
returns-in-47-clause-none c =
    if_none _ _ _ (no_line_comment _ _ (rw (← c.byte.ensures.byte) c.in-47.is))
    c.line_end.ensures.none

pub returns-in-42-clause-found : goal.returns-in-42-clause-found
returns-in-42-clause-found c =
    IfSome_then _ c.block_end.ensures.found
    (λ to. block_comment _ _ to c.requires.slash (rw (← c.byte.ensures.byte) c.in-42.is))

pub returns-in-42-clause-none : goal.returns-in-42-clause-none
returns-in-42-clause-none c =
    if_none _ _ _ (no_block_comment _ _ (rw (← c.byte.ensures.byte) c.in-42.is))
    c.block_end.ensures.none
