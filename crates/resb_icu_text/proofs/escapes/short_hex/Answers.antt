use Rattle.resb_icu_text.proofs.NumbersLemmas.{hex_one, hex_two}
use Rattle.resb_icu_text.proofs.escapes.short_hex.Goals as goal

pub returns-in-Some-clause-found : goal.returns-in-Some-clause-found
returns-in-Some-clause-found c =
    let first = c.in_ok-first.ensures.found in
    let second = c.in-Some.ensures.found in
    hex_two c.args.text.now c.args.at _ _ _ _ c.byte.ensures.byte c.byte-2.ensures.byte first.0
    first.1 second.0 second.1

pub returns-in-None-clause-found : goal.returns-in-None-clause-found
returns-in-None-clause-found c =
    let first = c.in_ok-first.ensures.found in
    hex_one c.args.text.now c.args.at _ _ _ c.byte.ensures.byte c.byte-2.ensures.byte first.0
    first.1 c.in-None.ensures.none
