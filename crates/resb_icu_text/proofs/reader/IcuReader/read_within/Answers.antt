use Rattle.std.proofs.Common.{ap, ◌∙◌}
use Rattle.resb_icu_grammar.proofs.Limited.{icu_never_more}
use Rattle.resb_icu_text.specs.Inner.Quota.{limit_of}
use Rattle.resb_icu_text.specs.declared.quota.Meter.{Meter}
use Rattle.resb_icu_text.proofs.ReadingLemmas.{larger_makes, text_within, stop_is_no_text}
use Rattle.resb_icu_text.proofs.reader.IcuReader.read_within.Goals as goal

pub returns-in-Err-clause-err : goal.returns-in-Err-clause-err
returns-in-Err-clause-err c =
    let same = ap (λ (m : Meter). limit_of m.quota) c.new-meter.ensures ∙ c.of_trees.ensures in
    larger_makes _ _ _ _ _ same c.in-Err.ensures.reads c.if-meter.true

pub returns-in-Err-clause-none : goal.returns-in-Err-clause-none
returns-in-Err-clause-none c =
    let same = ap (λ (m : Meter). limit_of m.quota) c.new-meter.ensures ∙ c.of_trees.ensures in
    λ w. icu_never_more _ _ w (larger_makes _ _ _ _ _ same c.in-Err.ensures.reads c.if-meter.true)

pub returns-in-Err-2-clause-err : goal.returns-in-Err-2-clause-err
returns-in-Err-2-clause-err c =
    let same = ap (λ (m : Meter). limit_of m.quota) c.new-meter.ensures ∙ c.of_trees.ensures in
    text_within _ _ _ _ _ same c.in-Err.ensures.reads

pub returns-in-Err-2-clause-none : goal.returns-in-Err-2-clause-none
returns-in-Err-2-clause-none c =
    stop_is_no_text _ _ _ _ c.in-Err.ensures.reads
