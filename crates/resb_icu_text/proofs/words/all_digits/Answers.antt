use Rattle.std.proofs.Common.{◌≡◌, ◌<◌, ◌≤◌, ◌-◌, ap, arith, sym, rules, refl}
use Rattle.resb_grammar.specs.Lexical.{digits_value}
use Rattle.resb_icu_text.proofs.WordsLemmas.{no_digits_there, no_digit_there, one_digit_more}
use Rattle.resb_icu_text.proofs.WordsLemmas.{beyond_limit, all_there}
use Rattle.resb_icu_text.proofs.Lists.{IfNone_from}
use Rattle.resb_icu_text.proofs.words.all_digits.Goals as goal

pub returns-then-from-to-clause-none : goal.returns-then-from-to-clause-none
returns-then-from-to-clause-none c =
    no_digits_there c.args.text.now c.args.radix c.args.from c.args.to c.args.limit
    (omega (arith, c.if-from-to.true))

pub loop-at-init : goal.loop-at-init
loop-at-init c =
    let none : c.args.from - c.args.from ≡ 0 = omega arith in
    record {
      each = λ k l m. absurd (omega (arith, l, m));
      value = sym (ap (digits_value c.args.radix c.args.text.now c.args.from) none);
      low = omega arith;
    }

pub returns-in_err-digit-clause-none : goal.returns-in_err-digit-clause-none
returns-in_err-digit-clause-none c =
    IfNone_from _ _
    (no_digit_there c.args.text.now c.args.radix c.args.from c.loop-at.at c.args.to _ c.args.limit
    (search rules) (search rules) c.byte.ensures.byte c.in_err-digit.ensures.none)

pub returns-then-more-limit-clause-none : goal.returns-then-more-limit-clause-none
returns-then-more-limit-clause-none c =
    let order : c.args.from ≤ c.loop-at.at = search rules in
    let low : c.loop-at.at < c.args.to = search rules in
    let d = c.in_ok-digit.ensures.found in
    let more = one_digit_more c.args.text.now c.args.radix c.args.from c.loop-at.at
    c.loop-at.value _ _ _ order c.loop-at.invariant.each c.loop-at.invariant.value
    c.byte.ensures.byte d.0 d.1 refl in
    beyond_limit c.args.text.now c.args.radix c.args.from c.loop-at.at c.args.to _ c.args.limit
    c.requires.radix.0 order low more.1 (omega (arith, c.if-more-limit.true))

pub loop-at-preserved : goal.loop-at-preserved
loop-at-preserved c =
    let order : c.args.from ≤ c.loop-at.at = search rules in
    let d = c.in_ok-digit.ensures.found in
    let more = one_digit_more c.args.text.now c.args.radix c.args.from c.loop-at.at
    c.loop-at.value _ _ _ order c.loop-at.invariant.each c.loop-at.invariant.value
    c.byte.ensures.byte d.0 d.1 refl in
    record { each = more.0; value = more.1; low = omega (arith, c.if-more-limit.false) }

pub returns-clause-found : goal.returns-clause-found
returns-clause-found c =
    all_there c.args.text.now c.args.radix c.args.from c.args.to _
    (omega (arith, c.if-from-to.false)) (search rules) (search rules)
