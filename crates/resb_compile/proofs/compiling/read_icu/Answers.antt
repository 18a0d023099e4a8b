use Rattle.resb_compile.proofs.Reasons.{icu_unread, icu_unread_at_all}
use Rattle.resb_compile.proofs.compiling.read_icu.Goals as goal

pub returns-in-Err-clause-err : goal.returns-in-Err-clause-err
returns-in-Err-clause-err c =
    icu_unread_at_all c.args.limit c.args.text.now _ c.in-None.is c.in-Err.ensures.err
    c.in-Err.ensures.no_text

pub returns-in-Err-Text-clause-err : goal.returns-in-Err-Text-clause-err
returns-in-Err-Text-clause-err c =
    let h = rw c.in-Err-Text.field-0-is at c.in-Err-Text.ensures.err in
    let n = rw c.in-Err-Text.field-0-is at c.in-Err-Text.ensures.none in
    icu_unread c.args.limit _ c.args.text.now _ c.in-Some.is h n
