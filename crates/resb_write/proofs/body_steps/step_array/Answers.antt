use Rattle.std.proofs.Common.{◌≡◌, ◌-◌, ℕ, length, drop, sym, ◌∙◌, ap, subst, arith}
use Rattle.std.proofs.lemmas.Result.{on_ok_weaker}
use Rattle.resb_tree.specs.Tree.{array}
use Rattle.resb_write.specs.Inner.Lending.{lent_of}
use Rattle.resb_write.specs.Inner.StackSteps.{LaysNext}
use Rattle.resb_write.specs.Inner.Room.{laid_of}
use Rattle.resb_write.specs.Inner.Seen.{TakesNoMore}
use Rattle.resb_write.proofs.KeyViews.{no_members}
use Rattle.resb_write.proofs.Stacks.{array_step, empty_array_step}
use Rattle.resb_write.proofs.Anywhere.{array_anywhere}
use Rattle.resb_write.proofs.body_steps.step_array.Goals as goal
use Rattle.resb_write.proofs.Lists.{split_stack}

pub returns-then-count-eq0-clause-step : goal.returns-then-count-eq0-clause-step
returns-then-count-eq0-clause-step c =
    on_ok_weaker c.replace.result (λ h g e members many. subst (λ ts. LaysNext
    (lent_of c.args.ground.now.lent) g
    (laid_of c.args.bodies.now) c.args.words.now.items (array ts)
    (laid_of c.args.bodies.now) c.replace.new.words.items)
    (sym (no_members members (omega (arith, many, c.if-count-eq0.true))))
    (empty_array_step (lent_of c.args.ground.now.lent) g (laid_of c.args.bodies.now)
    c.args.words.now.items c.replace.new.words.items c.word.result c.word.ensures h))
    c.replace.ensures

pub returns-then-count-eq0-clause-takes : goal.returns-then-count-eq0-clause-takes
returns-then-count-eq0-clause-takes c =
    on_ok_weaker c.replace.result (λ h. record {
      aligned = c.requires.room.aligned;
      units =
          omega arith;
      bytes = omega arith;
    }) c.replace.ensures

pub returns-clause-step : goal.returns-clause-step
returns-clause-step c =
    let ws = c.args.words.now.items in
    let n : ℕ = c.args.count in
    let mid = ap (λ k. k - n) (c.len.ensures ∙ c.args.words.now.ok.0) in
    let v = c.split_at.ensures.back ∙ (λ i. drop (mid i) (c.deref.ensures.value i)) in
    on_ok_weaker c.replace-2.result (λ h g e members many. array_step
    (lent_of c.args.ground.now.lent) g
    (laid_of c.args.bodies.now) (laid_of c.close_array.new.bodies) ws
    c.replace-2.new.words.items c.split_at.result.1.now members c.in_ok-word.word n (sym many)
    c.requires.enough v (omega (arith, c.if-count-eq0.false))
    (array_anywhere (lent_of c.args.ground.now.lent) g c.args.ground.now.base e
    c.in_ok-word.ensures.lays) h) c.replace-2.ensures

pub returns-clause-takes : goal.returns-clause-takes
returns-clause-takes c =
    let ws = c.args.words.now.items in
    let n : ℕ = c.args.count in
    let mid = ap (λ k. k - n) (c.len.ensures ∙ c.args.words.now.ok.0) in
    let v = c.split_at.ensures.back ∙ (λ i. drop (mid i) (c.deref.ensures.value i)) in
    let l : length c.split_at.result.1.now ≡ n = ap length v
    ∙ (split_stack ws n c.requires.enough).1 in
    on_ok_weaker c.replace-2.result
    (λ h. subst (TakesNoMore c.args.ground.now.base c.args.bodies.now c.close_array.new.bodies) l
    c.in_ok-word.ensures.takes) c.replace-2.ensures
