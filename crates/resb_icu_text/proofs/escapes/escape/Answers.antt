use Rattle.std.proofs.Common.{◌≡◌, sym, ◌∙◌, rules, false, true, ◌==◌, ◌||◌}
use Rattle.std.specs.Char.{is_digit}
use Rattle.resb_icu_text.proofs.EscapesLemmas.{no_long, said_long, is_itself_there}
use Rattle.resb_icu_text.proofs.NumbersLemmas.{lost_there, is_short_number, last_ascii, numbered}
use Rattle.resb_icu_text.proofs.Lists.{IfNone_from}
use Rattle.resb_icu_text.proofs.escapes.escape.Goals as goal

pub returns-in_err-c-clause-none : goal.returns-in_err-c-clause-none
returns-in_err-c-clause-none c =
    IfNone_from _ _
    (said_long c.args.text.now c.args.at c.in_ok-number.number
    (sym c.byte-b.ensures.byte ∙ c.if-b-eq85.true)
    c.in_ok-number.ensures.found.1 c.in_err-c.ensures.none)

pub returns-in_err-number-clause-none : goal.returns-in_err-number-clause-none
returns-in_err-number-clause-none c =
    IfNone_from _ _
    (no_long c.args.text.now c.args.at (sym c.byte-b.ensures.byte ∙ c.if-b-eq85.true)
    (λ h y z. c.in_err-number.ensures.none h))

pub returns-else-begins_number-clause-found : goal.returns-else-begins_number-clause-found
returns-else-begins_number-clause-found c =
    is_itself_there c.args.text.now c.args.at c.byte-b.result c.byte-b.ensures.byte (search rules)
    c.in_default.ensures.none c.if-b-eq117.false c.if-b-eq85.false c.if-b-eq99.false
    (sym c.begins_number.ensures ∙ c.if-begins_number.false)

pub returns-in_err-c-3-clause-none : goal.returns-in_err-c-3-clause-none
returns-in_err-c-3-clause-none c =
    IfNone_from _ _
    (lost_there c.args.text.now c.args.at _ c.byte-b.ensures.byte c.in_default.ensures.none
    c.if-b-eq117.false c.if-b-eq85.false c.if-b-eq99.false
    (sym c.begins_number.ensures ∙ c.if-begins_number.true) _ _ c.in_ok-to-2.ensures.found
    c.in_err-c-3.ensures.none)

pub returns-in_ok-c-3-clause-found : goal.returns-in_ok-c-3-clause-found
returns-in_ok-c-3-clause-found c =
    is_short_number c.args.text.now c.args.at _ _ _ _ c.byte-b.ensures.byte
    c.in_ok-to-2.ensures.found c.in_ok-c-3.ensures.found.0 c.in_ok-c-3.ensures.found.1

pub returns-in_ok-c-3-clause-ascii : goal.returns-in_ok-c-3-clause-ascii
returns-in_ok-c-3-clause-ascii c = λ k e.
    last_ascii c.args.text.now c.args.at _ _ c.in_ok-to-2.ensures.found

pub returns-in_err-to-2-clause-none : goal.returns-in_err-to-2-clause-none
returns-in_err-to-2-clause-none c =
    IfNone_from _ _
    (numbered c.args.text.now c.args.at _ c.byte-b.ensures.byte c.in_default.ensures.none
    c.if-b-eq117.false c.if-b-eq85.false c.if-b-eq99.false
    (sym c.begins_number.ensures ∙ c.if-begins_number.true)
    (λ to n p o. c.in_err-to-2.ensures.none to n p))
