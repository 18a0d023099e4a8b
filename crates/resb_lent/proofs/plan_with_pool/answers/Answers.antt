use Rattle.std.proofs.Common.{◌∷◌, ◌++◌, [], ℕ, List, Bor, get_or, take, sym, subst}
use Rattle.std.specs.List.{All}
use Rattle.std.specs.Str.{IsUtf8}
use Rattle.std.proofs.lemmas.List.{take_all}
use Rattle.std.proofs.lemmas.List.Elements.{All-nil, All-push}
use Rattle.resb_pool.specs.Plan.{nows}
use Rattle.resb_pool.proofs.TextLoops.{nows-take}
use Rattle.resb_pool.specs.declared.packing.Packing.TheVariants.{Plain}
use Rattle.resb_lent.specs.PlanWithPool.{AreLentBy, lent_none}
use Rattle.resb_lent.proofs.Beside.{lent_push}
use Rattle.resb_lent.proofs.plan_with_pool.answers.Goals as goal

pub loop-text-init : goal.loop-text-init
loop-text-init c = record {
  lends = λ block A h.
      subst (AreLentBy Plain block A []) (sym c.in_ok-found.ensures.items) lent_none;
  utf8 = All-nil IsUtf8;
}

pub loop-text-preserved : goal.loop-text-preserved
loop-text-preserved c =
    let xs = c.args.texts.now in
    let i = c.loop-text.text-index in
    let d : Bor (List ℕ) = record { ref_ptr = (0, 0); now = [] } in
    let s = (get_or xs i d).now in
    let more = nows-take xs i d c.loop-text-test.true in
    record {
      lends = λ block A h. subst (λ ss. AreLentBy Plain block A ss c.push.new.self.items) (sym more)
          (subst (AreLentBy Plain block A (nows (take i xs) ++ s ∷ []))
          (sym c.in_ok-push.ensures.items)
          (lent_push Plain block A (nows (take i xs)) c.loop-text.found.items s c.answer_for.result
          (c.loop-text.invariant.lends block A h) (c.answer_for.ensures.lends block h)));
      utf8 = subst (All IsUtf8) (sym more)
          (All-push IsUtf8 (nows (take i xs)) s c.loop-text.invariant.utf8
          c.answer_for.ensures.utf8);
    }

pub returns-clause-lends : goal.returns-clause-lends
returns-clause-lends c = λ block A h.
    subst (λ xs. AreLentBy Plain block A (nows xs) c.loop-text.found.items)
    (take_all c.loop-text.text-index c.args.texts.now c.loop-text-test.false)
    (c.loop-text.invariant.lends block A h)

pub returns-clause-utf8 : goal.returns-clause-utf8
returns-clause-utf8 c = subst (λ xs. All IsUtf8 (nows xs))
    (take_all c.loop-text.text-index c.args.texts.now c.loop-text-test.false)
    c.loop-text.invariant.utf8
