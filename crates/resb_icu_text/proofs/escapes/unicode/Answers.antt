use Rattle.std.proofs.Common.{sym, ◌∙◌, arith}
use Rattle.resb_icu_text.proofs.EscapesLemmas.{no_digits, four_there, pair_nowhere, pair_there}
use Rattle.resb_icu_text.proofs.EscapesLemmas.{pair_ascii, no_character, is_short, fourth_ascii}
use Rattle.resb_icu_text.proofs.Lists.{IfNone_from}
use Rattle.resb_icu_text.proofs.escapes.unicode.Goals as goal

pub returns-in_err-number-clause-none : goal.returns-in_err-number-clause-none
returns-in_err-number-clause-none c =
    IfNone_from _ _
    (no_digits c.args.text.now c.args.at c.requires.letter c.in_err-number.ensures.none)

pub returns-in_err-low-clause-none : goal.returns-in_err-low-clause-none
returns-in_err-low-clause-none c =
    let f = c.in_ok-number.ensures.found in
    IfNone_from _ _
    (pair_nowhere c.args.text.now c.args.at _
    (four_there c.args.text.now c.args.at _ c.requires.letter f.0 f.1)
    (sym c.is_high.ensures ∙ c.if-is_high.true) c.in_err-low.ensures.none)

pub returns-then-is_high-clause-found : goal.returns-then-is_high-clause-found
returns-then-is_high-clause-found c =
    let f = c.in_ok-number.ensures.found in
    let l = c.in_ok-low.ensures.found in
    pair_there c.args.text.now c.args.at _ _ _
    (four_there c.args.text.now c.args.at _ c.requires.letter f.0 f.1)
    (sym c.is_high.ensures ∙ c.if-is_high.true) l.0 l.1 l.2 c.paired-c.ensures

pub returns-then-is_high-clause-within : goal.returns-then-is_high-clause-within
returns-then-is_high-clause-within c =
    let l = c.in_ok-low.ensures.found in
    (omega arith, omega (arith, l.3), pair_ascii c.args.text.now c.args.at _ l.1)

pub returns-in_err-c-clause-none : goal.returns-in_err-c-clause-none
returns-in_err-c-clause-none c =
    let f = c.in_ok-number.ensures.found in
    IfNone_from _ _
    (no_character c.args.text.now c.args.at _
    (four_there c.args.text.now c.args.at _ c.requires.letter f.0 f.1)
    (sym c.is_high.ensures ∙ c.if-is_high.false) c.in_err-c.ensures.none)

pub returns-clause-found : goal.returns-clause-found
returns-clause-found c =
    let f = c.in_ok-number.ensures.found in
    let s = c.in_ok-c.ensures.found in
    is_short c.args.text.now c.args.at _ _
    (four_there c.args.text.now c.args.at _ c.requires.letter f.0 f.1) s.0 s.1 s.2

pub returns-clause-within : goal.returns-clause-within
returns-clause-within c =
    let f = c.in_ok-number.ensures.found in
    (omega arith, omega (arith, f.3), fourth_ascii c.args.text.now c.args.at f.0)
