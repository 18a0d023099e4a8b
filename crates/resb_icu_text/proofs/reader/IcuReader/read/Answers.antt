use Rattle.resb_icu_text.proofs.ReadingLemmas.{answer_fails, answer_no_text}
use Rattle.resb_icu_text.proofs.reader.IcuReader.read.Goals as goal

pub returns-clause-err : goal.returns-clause-err
returns-clause-err c =
    answer_fails _ _ _ _ c.read_limited.result c.read_limited.ensures.reads

pub returns-clause-no_text : goal.returns-clause-no_text
returns-clause-no_text c =
    answer_no_text _ _ _ _ c.read_limited.result c.read_limited.ensures.reads
