use Rattle.std.proofs.Common.{rules, ◌≡◌, ◌++◌, map, reverse, ℕ, ◌+◌, ◌-◌, ◌<◌, ◌≤◌, length, List}
use Rattle.std.proofs.Common.{[], ◌∷◌, refl, sym, ap, ◌∙◌, subst, arith}
use Rattle.std.proofs.Common.{append_assoc, take, get_or}
use Rattle.std.proofs.Output.{has_written_append, has_written_of_eq}
use Rattle.std.proofs.lemmas.List.{take_more, map-append, reverse-append}
use Rattle.resb_diff.specs.declared.paths.PathStep.{PathStep}
use Rattle.resb_diff.specs.Paths.{step_of}
use Rattle.resb_blame.specs.Message.{step_text, divider_text, path_text}
use Rattle.resb_blame.proofs.message.write_path.Goals as goal

-- the path of steps with one more at their end begins with this one
path_more : (steps : List PathStep) (step : PathStep)
    → path_text (reverse (map step_of (steps ++ step ∷ [])))
    ≡ (step_text (step_of step) ++ divider_text (reverse (map step_of steps)))
    ++ path_text (reverse (map step_of steps))
path_more steps step =
    ap (λ r. path_text (reverse r)) (map-append step_of steps (step ∷ []))
    ∙ ap path_text (reverse-append (map step_of steps) (step_of step ∷ []))

-- a step is written, and what comes between it and those that are left
written_more : (steps : List PathStep) (n : ℕ) (d : PathStep) (done div whole : List ℕ)
    → 0 < n → n ≤ length steps
    → div ≡ divider_text (reverse (map step_of (take (n - 1) steps)))
    → done ++ path_text (reverse (map step_of (take n steps))) ≡ whole
    → (done ++ (step_text (step_of (get_or steps (n - 1) d)) ++ div))
    ++ path_text (reverse (map step_of (take (n - 1) steps))) ≡ whole
written_more steps n d done div whole some within is so_far =
    let step = get_or steps (n - 1) d in
    let left = take (n - 1) steps in
    let path = path_text (reverse (map step_of left)) in
    let back : n ≡ n - 1 + 1 = omega arith in
    let less : n - 1 < length steps = omega arith in
    let split : take n steps ≡ left ++ step ∷ [] =
    ap (λ k. take k steps) back ∙ take_more steps (n - 1) d less in
    append_assoc done (step_text (step_of step) ++ div) path
    ∙ ap (λ t. done ++ ((step_text (step_of step) ++ t) ++ path)) is
    ∙ ap (λ t. done ++ t) (sym (path_more left step))
    ∙ ap (λ ps. done ++ path_text (reverse (map step_of ps))) (sym split)
    ∙ so_far

pub loop-number-preserved : goal.loop-number-preserved
loop-number-preserved g c = (
  omega arith,
  λ plain.
      let so_far = c.loop-number.invariant.1 plain in (
        _,
        has_written_append _ _ _ _ _ _ so_far.1
            (c.write_step.ensures so_far.1.plain (search rules)),
        written_more c.args.steps.now c.loop-number.number _ so_far.0 c.divider.result.now _
            (omega (arith, c.loop-number-test.true)) c.loop-number.invariant.0 c.divider.ensures
            so_far.2,
      ),
)
