-- What the group takes of the file's text is written, or there are no rules in it.
use Rattle.resb_icu_files.proofs.WritingLemmas.{said_written, rules_lack, rules_fail}
use Rattle.resb_icu_files.proofs.writing.text_written.Goals as goal

pub returns-in_ok-string_saying-in-Some-clause-ok
    : goal.returns-in_ok-string_saying-in-Some-clause-ok
returns-in_ok-string_saying-in-Some-clause-ok c =
    let t = c.in_ok-text.ensures.ok in
    let left = rw c.in-Some.is at c.in_ok-taken.ensures in
    let out = rw c.said.ensures at c.in_ok-string_saying-in-Some.ensures in
    λ inside. said_written _ inside _ t.bytes _ _ _ _ c.requires.text t.found (t.said, t.whole)
    left out

pub returns-in_ok-named-in-None-clause-err : goal.returns-in_ok-named-in-None-clause-err
returns-in_ok-named-in-None-clause-err c =
    let t = c.in_ok-text.ensures.ok in
    let n = c.in_ok-named-in-None.ensures in
    let has = rules_lack _ _ t.bytes _ _ c.requires.text t.found (t.said, t.whole)
    (rw c.in-None.is at c.in_ok-taken.ensures) in
    rules_fail _ _ _ _ _ _ has n.0 n.1 c.without_rules.ensures
