use Rattle.std.proofs.Common.{◌≡◌, refl, arith, inr}
use Rattle.resb_grammar.proofs.Making.{root_opened, root_over}
use Rattle.resb_text.proofs.QuotaLemmas.{unused_kept, quota_kept, quota_over, own_limit_kept}
use Rattle.resb_text.proofs.QuotaLemmas.{fails_first, fails_first_same}
use Rattle.resb_text.proofs.Outcomes.{if_err_same, match_same}
use Rattle.resb_text.proofs.reader.read_into.Goals as goal

pub returns-in_err-head-clause-quota : goal.returns-in_err-head-clause-quota
returns-in_err-head-clause-quota g c = unused_kept c.requires

pub returns-in_err-head-clause-reads : goal.returns-in_err-head-clause-reads
returns-in_err-head-clause-reads g c =
    let failed = c.in_err-head.ensures.reads c.args.quota.now.limit.weights in
    match_same _ _ _ _ c.from_residual.ensures.1 (inr failed.stuck)

pub returns-in_err-head-clause-first : goal.returns-in_err-head-clause-first
returns-in_err-head-clause-first g c =
    if_err_same _ _ _ c.from_residual.ensures.1
    (fails_first (inr (c.in_err-head.ensures.reads _)) (omega arith))

pub returns-in_err-root-clause-first : goal.returns-in_err-root-clause-first
returns-in_err-root-clause-first g c =
    if_err_same _ _ _ c.from_residual-in_err-root.ensures.1
    (fails_first_same
    c.in_ok-take.ensures.same c.in_err-root.ensures.reads c.in_err-root.ensures.quota.within)

pub returns-in_err-take-clause-quota : goal.returns-in_err-take-clause-quota
returns-in_err-take-clause-quota g c =
    quota_over (unused_kept c.requires) c.in_err-take.ensures
    (λ more. root_over _ _ _ _ _ c.in_ok-head.ensures.reads
    (omega (arith, c.requires.made, more, c.group_bytes.ensures)))

pub returns-in_err-groups-clause-quota : goal.returns-in_err-groups-clause-quota
returns-in_err-groups-clause-quota g c =
    quota_kept (unused_kept c.requires) c.in_ok-take.ensures

pub rest-requires : goal.rest-requires
rest-requires g c = λ k.
    let fresh = c.requires.made in
    let made = c.in_ok-take.ensures.made in
    let group = c.group_bytes.ensures in
    let sum : c.take.new.self.made ≡ c.args.quota.now.limit.weights.group =
    omega (arith, fresh, made, group) in (
      (refl, tt),
      (
        record {
          within = c.in_ok-head.ensures.cost.0;
          made =
              rw (sum, c.in_ok-take.ensures.same)
              (root_opened _ _ _ _ _ c.in_ok-head.ensures.reads);
          keeps = own_limit_kept (quota_kept (unused_kept c.requires) c.in_ok-take.ensures);
        },
        c.in_ok-groups.ensures,
      ),
    )
