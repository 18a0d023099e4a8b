use Rattle.std.proofs.Common.{List, ℕ, sym, ◌∙◌}
use Rattle.resb_icu_grammar.specs.Pieces.{Joined}
use Rattle.resb_icu_text.proofs.DigitsLemmas.{digits_first, digits_more, digits_none, digits_on}
use Rattle.resb_icu_text.proofs.DigitsLemmas.{digits_over, onward_fits}
use Rattle.resb_icu_text.proofs.digits.say_digits.Goals as goal

pub digits-init : goal.digits-init
digits-init c =
    let j = c.requires.joined in
    let first = digits_first c.args.text.now c.args.from c.args.end j.0 j.1 in
    record {
      left = λ said k. digits_first _ _ _ said k;
      fits = onward_fits _ _ _ _ first.onward;
    }

pub digits-preserved-in-Some : goal.digits-preserved-in-Some
digits-preserved-in-Some c =
    let j = c.requires.joined in
    let more = λ (said : List ℕ) (k : Joined c.args.text.now c.args.from c.args.end said).
    digits_more _ _ _ _ said c.in-Some.ensures.digit
    (c.digits.invariant.left said k) in
    record { left = more; fits = onward_fits _ _ _ _ (more j.0 j.1).onward }

pub returns-in-None : goal.returns-in-None
returns-in-None c = λ said j.
    sym (digits_none _ _ _ said c.in-None.ensures.none (c.digits.invariant.left said j))

pub returns-then-at-end : goal.returns-then-at-end
returns-then-at-end c = λ said j.
    sym (digits_over _ _ _ said (sym c.byte.ensures.byte ∙ c.if-byte-ne34.false) c.if-at-end.true
    (c.digits.invariant.left said j))

pub digits-preserved : goal.digits-preserved
digits-preserved c =
    let j = c.requires.joined in
    let on = λ (said : List ℕ) (k : Joined c.args.text.now c.args.from c.args.end said).
    digits_on _ _ _ _ said
    (sym c.byte.ensures.byte ∙ c.if-byte-ne34.false) c.if-at-end.false c.skip-at.ensures.skip
    (c.digits.invariant.left said k) in
    record { left = on; fits = onward_fits _ _ _ _ (on j.0 j.1).onward }
