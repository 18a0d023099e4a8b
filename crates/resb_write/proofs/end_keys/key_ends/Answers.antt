use Rattle.std.proofs.Common.{◌+◌, ◌∷◌, ◌++◌, [], ℕ, List, Bor, length, get_or, take, sym, ap}
use Rattle.std.proofs.Common.{subst, arith}
use Rattle.std.proofs.lemmas.List.{take_all, length_push, length-take-le, length-map}
use Rattle.resb_pool.specs.Plan.{nows}
use Rattle.resb_pool.proofs.TextLoops.{blank, nows-take}
use Rattle.resb_write.specs.Inner.KeyEnds.{AreKeyEnds, place_by}
use Rattle.resb_write.proofs.EndKeys.{ends_push}
use Rattle.resb_write.proofs.end_keys.key_ends.Goals as goal

pub loop-name-init : goal.loop-name-init
loop-name-init c = record {
  len = ap length c.in_ok-ends.ensures.items;
  ends = λ js o i d l. absurd (omega (arith, l));
}

pub loop-name-preserved : goal.loop-name-preserved
loop-name-preserved c =
    let xs = c.args.names.now in
    let i = c.loop-name.name-index in
    let es = c.loop-name.ends.items in
    let v = c.loop-name.invariant in
    let newer = c.in_ok-push.ensures.items in
    record {
      len = omega (arith, ap length newer, length_push es c.key_end.result, v.len);
      ends = λ js o. subst (AreKeyEnds (place_by c.args.lent js) js
          (nows (take (i + 1) xs))) (sym newer)
          (subst (λ z. AreKeyEnds (place_by c.args.lent js) js z (es ++ c.key_end.result ∷ []))
          (sym (nows-take xs i blank c.loop-name-test.true))
          (ends_push (place_by c.args.lent js) js (nows (take i xs)) es (get_or xs i blank).now
          c.key_end.result (omega (
            arith,
            v.len,
            length-map (take i xs) (λ (y : Bor (List ℕ)). y.now),
            length-take-le i xs (omega (arith, c.loop-name-test.true)),
          )) (v.ends js o) (c.key_end.ensures js o)));
    }

pub returns-clause-len : goal.returns-clause-len
returns-clause-len c = omega (arith, c.loop-name.invariant.len, c.loop-name-test.false)

pub returns-clause-ends : goal.returns-clause-ends
returns-clause-ends c = λ js o.
    subst (λ z. AreKeyEnds (place_by c.args.lent js) js (nows z) c.loop-name.ends.items)
    (take_all c.loop-name.name-index c.args.names.now (omega (arith, c.loop-name-test.false)))
    (c.loop-name.invariant.ends js o)
