use Rattle.std.proofs.Common.{◌<◌, length, arith, ap, sym, ◌∙◌, ◌++◌, encode_utf8}
use Rattle.std.proofs.lemmas.List.{get_or_read}
use Rattle.resb_icu_files.proofs.RulesLemmas.{written_more}
use Rattle.resb_icu_files.proofs.rules.written.Goals as goal

pub loop-c-preserved : goal.loop-c-preserved
loop-c-preserved c =
    let low : c.loop-c.c-index < length c.args.characters.now = omega arith in
    let e = written_more c.args.characters.now c.loop-c.c-index c.c-item.result low
    (get_or_read c.args.characters.now _ _ low c.c-item.is 0) in
    c.in_ok-push.ensures.bytes
    ∙ (ap (λ l. l ++ encode_utf8 c.c-item.result) c.loop-c.invariant ∙ sym e)
