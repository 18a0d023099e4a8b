use Rattle.std.proofs.Common.{◌≡◌, ◌<◌, [], Bor, ℕ, List, length, get_or, inl, inr, sym, ◌∙◌, ap}
use Rattle.std.proofs.Common.{subst, arith}
use Rattle.std.proofs.lemmas.List.{get_or-map}
use Rattle.resb_pool.specs.Plan.{nows}
use Rattle.resb_lent.specs.declared.texts.Standing.TheVariants.{Whole}
use Rattle.resb_lent.proofs.Others.{old_or_new, same_at}
use Rattle.resb_pool.proofs.TextLoops.{blank}
use Rattle.resb_lent.specs.Inner.Chosen.{IsMarked}
use Rattle.resb_lent.proofs.answers_beside.end_marks.Goals as goal

pub loop-at-init : goal.loop-at-init
loop-at-init c = λ i d l e. absurd (omega (arith, l))

pub loop-at-preserved : goal.loop-at-preserved
loop-at-preserved c = λ i d l e.
    let xs = c.args.strings.now in
    let ds = c.args.standings.now in
    let at = c.loop-at.at in
    elim (old_or_new at i l) [
      | inl m ↦ c.mark_end.ensures.kept _ (c.loop-at.invariant i d m e)
      | inr m ↦
          let within : i < length xs = omega (arith, m, c.loop-at-test.true) in
          let told : i < length ds = omega (arith, within, c.requires) in
          let text : get_or (nows xs) i [] ≡ (get_or xs at blank).now =
          get_or-map (λ (y : Bor (List ℕ)). y.now) xs i blank [] within
          ∙ ap (λ k. (get_or xs k blank).now) m in
          subst (IsMarked c.mark_end.new.marks) (sym text)
          (c.mark_end.ensures.marked
          (same_at ds i at d (Whole 0) m told ∙ e))
    ]

pub returns : goal.returns
returns c = λ i d l e. c.loop-at.invariant i d (omega (arith, l, c.loop-at-test.false)) e
