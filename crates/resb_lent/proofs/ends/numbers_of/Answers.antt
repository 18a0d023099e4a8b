use Rattle.std.proofs.Common.{◌+◌, ◌∷◌, ◌++◌, [], take, length, sym, subst, ap, arith}
use Rattle.std.proofs.lemmas.List.{take_all, take_more}
use Rattle.resb_lent.specs.Inner.EndNumbers.{AreNumbers}
use Rattle.resb_lent.proofs.NumberedEnds.{numbers_push}
use Rattle.resb_lent.proofs.ends.numbers_of.Goals as goal

pub loop-run-init : goal.loop-run-init
loop-run-init c = record {
  len = ap length c.in_ok-numbers.ensures.items;
  each = λ k d l. absurd (omega (arith, l));
}

pub loop-run-preserved : goal.loop-run-preserved
loop-run-preserved c =
    let rs = c.args.runs.now in
    let i = c.loop-run.run-index in
    subst (AreNumbers (take (i + 1) rs)) (sym c.in_ok-push.ensures.items)
    (subst (λ z. AreNumbers z (c.loop-run.numbers.items ++ c.end_number.result ∷ []))
    (sym (take_more rs i _ c.loop-run-test.true))
    (numbers_push (take i rs) c.loop-run.numbers.items _ c.end_number.result
    c.loop-run.invariant c.end_number.ensures.number c.end_number.ensures.bytes))

pub returns : goal.returns
returns c = subst (λ z. AreNumbers z c.loop-run.numbers.items)
    (take_all c.loop-run.run-index c.args.runs.now c.loop-run-test.false) c.loop-run.invariant
