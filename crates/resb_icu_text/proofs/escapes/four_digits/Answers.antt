use Rattle.std.proofs.Common.{◌+◌, ◌<◌, length, refl, arith, sym, ◌∙◌, ◌≡◌, true}
use Rattle.std.proofs.lemmas.Bool.{false≢true}
use Rattle.resb_icu_grammar.specs.Escapes.{are_hex}
use Rattle.resb_icu_text.proofs.Lists.{IfNone_from}
use Rattle.resb_icu_text.proofs.EscapesLemmas.{four_are, hex_some, four_parts}
use Rattle.resb_icu_text.proofs.escapes.four_digits.Goals as goal

pub returns-clause-found : goal.returns-clause-found
returns-clause-found c =
    let f = c.in_ok-first.ensures.found in
    let s = c.in_ok-second.ensures.found in
    let t = c.in_ok-third.ensures.found in
    let l = c.in_ok-fourth.ensures.found in
    let all = four_are c.args.text.now c.args.from c.in_ok-first.first c.in_ok-second.second
    c.in_ok-third.third c.in_ok-fourth.fourth _
    (rw c.byte.ensures.byte at f.0) (rw c.byte.ensures.byte at f.1)
    (rw c.byte-2.ensures.byte at s.0) (rw c.byte-2.ensures.byte at s.1)
    (rw c.byte-3.ensures.byte at t.0) (rw c.byte-3.ensures.byte at t.1)
    (rw c.byte-4.ensures.byte at l.0) (rw c.byte-4.ensures.byte at l.1) refl in
    let low : c.args.from + 3 < length c.args.text.now = c.byte-4.ensures.inside (hex_some _ l.0) in
    (all.0, all.1, omega (arith, f.2, s.2, t.2, l.2), omega (arith, low))

pub returns-in_err-first-clause-none : goal.returns-in_err-first-clause-none
returns-in_err-first-clause-none c =
    let never : are_hex c.args.text.now c.args.from 4 ≡ true → ⊥ =
    λ h. false≢true (sym (rw c.byte.ensures.byte at c.in_err-first.ensures.none)
    ∙ (four_parts c.args.text.now c.args.from h).0) in
    IfNone_from _ _ never

pub returns-in_err-second-clause-none : goal.returns-in_err-second-clause-none
returns-in_err-second-clause-none c =
    let never : are_hex c.args.text.now c.args.from 4 ≡ true → ⊥ =
    λ h. false≢true (sym (rw c.byte-2.ensures.byte at c.in_err-second.ensures.none)
    ∙ (four_parts c.args.text.now c.args.from h).1) in
    IfNone_from _ _ never

pub returns-in_err-third-clause-none : goal.returns-in_err-third-clause-none
returns-in_err-third-clause-none c =
    let never : are_hex c.args.text.now c.args.from 4 ≡ true → ⊥ =
    λ h. false≢true (sym (rw c.byte-3.ensures.byte at c.in_err-third.ensures.none)
    ∙ (four_parts c.args.text.now c.args.from h).2) in
    IfNone_from _ _ never

pub returns-in_err-fourth-clause-none : goal.returns-in_err-fourth-clause-none
returns-in_err-fourth-clause-none c =
    let never : are_hex c.args.text.now c.args.from 4 ≡ true → ⊥ =
    λ h. false≢true (sym (rw c.byte-4.ensures.byte at c.in_err-fourth.ensures.none)
    ∙ (four_parts c.args.text.now c.args.from h).3) in
    IfNone_from _ _ never
