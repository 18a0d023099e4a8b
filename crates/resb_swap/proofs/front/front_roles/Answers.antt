use Rattle.std.proofs.Common.{◌≡◌, ◌<◌, arith, sym, subst, ◌∙◌, ℕ}
use Rattle.std.proofs.lemmas.Grind.{common_steps}
use Rattle.resb_swap.proofs.FrontLemmas.{front_made, front_more}
use Rattle.resb_swap.proofs.front.front_roles.Goals as goal

pub loop-number-preserved : goal.loop-number-preserved
loop-number-preserved c = record {
  each = grind (arith, common_steps);
  roles = front_more _ _ _ _ _ _ _ c.in_ok-push.ensures.items c.loop-number.invariant.each
      c.front_role.ensures c.loop-number.invariant.roles;
}

pub returns : goal.returns
returns c =
    let all : c.loop-number.number ≡ c.len-number-end.result = omega arith in
    front_made _ _ c.len-number-end.result _ _ _ c.requires c.len-number-end.ensures
    c.field_count-fields.ensures c.word-keys_end.ensures c.block_end-block_end.ensures
    (c.loop-number.invariant.each ∙ all)
    (λ i lt. c.loop-number.invariant.roles i (subst (λ (n : ℕ). i < n) (sym all) lt))
