use Rattle.std.proofs.Common.{sym, ◌∙◌}
use Rattle.resb_icu_text.proofs.ReadingLemmas.{unfit_name, empty_name, broken_name}
use Rattle.resb_icu_text.proofs.reader.name.Goals as goal

pub returns-then-is_empty-clause-reads : goal.returns-then-is_empty-clause-reads
returns-then-is_empty-clause-reads c =
    let found = c.in_ok-next.ensures.reads in
    unfit_name _ _ _ _ _ c.new.ensures found.stands
    (empty_name _ _ _ _ found.stands (sym c.is_empty.ensures ∙ c.if-is_empty.true))

pub returns-then-word_end-key-clause-reads : goal.returns-then-word_end-key-clause-reads
returns-then-word_end-key-clause-reads c =
    let found = c.in_ok-next.ensures.reads in
    unfit_name _ _ _ _ _ c.new-then-word_end-key.ensures found.stands
    (broken_name _ _ _ _ _ found.stands c.word_end.ensures.run c.if-word_end-key.true)
