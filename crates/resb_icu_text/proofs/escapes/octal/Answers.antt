use Rattle.resb_icu_text.proofs.NumbersLemmas.{octal_one, octal_two, octal_three}
use Rattle.resb_icu_text.proofs.escapes.octal.Goals as goal

pub returns-in_default-clause-found : goal.returns-in_default-clause-found
returns-in_default-clause-found c =
    let first = c.in_ok-first.ensures.found in
    octal_one c.args.text.now c.args.at _ _ _ c.byte.ensures.byte c.byte-2.ensures.byte first.0
    first.1 c.in_default.ensures.none

pub returns-in-Some-octal_digit-clause-found : goal.returns-in-Some-octal_digit-clause-found
returns-in-Some-octal_digit-clause-found c =
    let first = c.in_ok-first.ensures.found in
    let second = c.in-Some.ensures.found in
    let third = c.in-Some-octal_digit.ensures.found in
    octal_three c.args.text.now c.args.at _ _ _ _ _ _ c.byte.ensures.byte c.byte-2.ensures.byte
    c.byte-3.ensures.byte first.0 first.1 second.0 second.1 third.0 third.1

pub returns-in-None-clause-found : goal.returns-in-None-clause-found
returns-in-None-clause-found c =
    let first = c.in_ok-first.ensures.found in
    let second = c.in-Some.ensures.found in
    octal_two c.args.text.now c.args.at _ _ _ _ _ c.byte.ensures.byte c.byte-2.ensures.byte
    c.byte-3.ensures.byte first.0 first.1 second.0 second.1 c.in-None.ensures.none
