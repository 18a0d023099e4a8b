use Rattle.std.proofs.Common.{◌+◌, refl, sym, ◌∙◌}
use Rattle.std.proofs.lemmas.Bool.{false≢true}
use Rattle.std.proofs.lemmas.Result.{err_from_is_err_and, on_ok_weaker, IfErr-weaker}
use Rattle.resb_swap.specs.Inner.Claims.{FailsClaim, FailsOwning, fill_role}
use Rattle.resb_swap.specs.Inner.Seen.{seen}
use Rattle.resb_swap.specs.declared.role.Role.TheVariants as role
use Rattle.resb_swap.proofs.OwningLemmas.{first_is, start_some, owned, middle_fails, members_fail}
use Rattle.resb_swap.proofs.OwningLemmas.{middle_some}
use Rattle.resb_swap.proofs.claims.own.Goals as goal

pub returns-then-place-roles-clause-err : goal.returns-then-place-roles-clause-err
returns-then-place-roles-clause-err c = (
  c.args.place,
  (
    λ e. start_some _ c.requires.start (sym (first_is _ _ _) ∙ e),
    c.if-place-roles.true,
  ),
)

pub returns-then-not-is_free-clause-err : goal.returns-then-not-is_free-clause-err
returns-then-not-is_free-clause-err c = (
  c.args.place,
  (
    λ e. start_some _ c.requires.start (sym (first_is _ _ _) ∙ e),
    λ e. false≢true (c.if-not-is_free.ensures.1 e),
    λ e. c.requires.new (e ∙ first_is _ _ _),
  ),
)

pub returns-in_err-claim-clause-err : goal.returns-in_err-claim-clause-err
returns-in_err-claim-clause-err c =
    let p = err_from_is_err_and c.from_residual.result c.from_residual.ensures.1 in
    rw (p.1, p.2) (middle_fails _ _ _ _ _ _ _ _ c.in_err-claim.field-0.0 c.count-count.ensures
    c.middle_len-middle.ensures refl c.fill_of.ensures c.if-place-roles.false
    c.in_err-claim.ensures.err)

pub returns-clause-ok : goal.returns-clause-ok
returns-clause-ok c = on_ok_weaker c.claim-2.result
    (owned (seen c.args.body) c.args.roles.now c.claim.new.roles c.claim-2.new.roles c.args.role
    (fill_role c.fill_of.result) c.args.place c.count-count.result c.middle_len-middle.result
    c.members.result
    c.count-count.ensures c.middle_len-middle.ensures c.members.ensures c.fill_of.ensures
    c.if-place-roles.false (c.if-not-is_free.ensures.0 refl) c.requires.start
    c.in_ok-claim.ensures.ok) c.claim-2.ensures.ok

pub returns-clause-err : goal.returns-clause-err
returns-clause-err c = IfErr-weaker c.claim-2.result
    (FailsClaim c.claim.new.roles (c.args.place + 1 + c.middle_len-middle.result) c.members.result
    (λ k. role.Words))
    (FailsOwning (seen c.args.body) c.args.roles.now c.args.role c.args.place)
    (λ e h. members_fail (seen c.args.body) c.args.roles.now c.claim.new.roles c.args.role
    (fill_role c.fill_of.result) c.args.place c.count-count.result c.middle_len-middle.result
    c.members.result e
    c.count-count.ensures c.middle_len-middle.ensures c.members.ensures c.fill_of.ensures
    c.if-place-roles.false c.in_ok-claim.ensures.ok h) c.claim-2.ensures.err

pub claim-requires-clause-some : goal.claim-requires-clause-some
claim-requires-clause-some c = λ k e. middle_some _ _ _ k (sym (c.fill_of.ensures k) ∙ e)
