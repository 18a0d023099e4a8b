use Rattle.std.proofs.Common.{refl, sym, ◌∙◌}
use Rattle.resb_swap.proofs.ClaimsLemmas.{claim_more}
use Rattle.resb_swap.proofs.claims.claim.Goals as goal

pub loop-i-preserved : goal.loop-i-preserved
loop-i-preserved c =
    claim_more _ _ _ _ _ _ c.role-role.ensures c.loop-i.auto.i c.if-i-roles.false
    (λ e. c.requires.some _ (sym c.role-role.ensures ∙ e)) c.loop-i.invariant
    (c.if-not-is_open.ensures.0 refl)
