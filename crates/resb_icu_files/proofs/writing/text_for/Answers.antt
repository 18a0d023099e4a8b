-- The file has no text.
use Rattle.resb_icu_files.proofs.WritingLemmas.{text_lacks}
use Rattle.resb_icu_files.proofs.writing.text_for.Goals as goal

pub returns-in_ok-named-in-Err-clause-err : goal.returns-in_ok-named-in-Err-clause-err
returns-in_ok-named-in-Err-clause-err c =
    let n = c.in_ok-named-in-Err.ensures in (
      text_lacks _ _ _ _ _ c.requires.text c.in_ok-bytes.ensures.ok c.behind_mark.ensures
          c.in-Err.ensures.cases.0,
      n.0,
      n.1,
    )
