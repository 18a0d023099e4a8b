-- Each refusal with its reason, and the plan.
use Rattle.std.proofs.Common.{◌≡◌, ◌<◌, ◌++◌, ℕ, List, Option, Some, map, length, sym}
use Rattle.std.proofs.Common.{◌∙◌, ap, subst, arith}
use Rattle.std.specs.List.{All}
use Rattle.std.proofs.lemmas.Result.{err_from_is_err_and}
use Rattle.resb_pool.specs.Ended.{AreEnded}
use Rattle.resb_pool.specs.Plan.{nows, IsPlanAmong, NotPlanned}
use Rattle.resb_lent.specs.Lending.{LendsTexts}
use Rattle.resb_lent.specs.LentBeside.{IsTextBeside}
use Rattle.resb_lent.specs.PlanWithPool.{lacking, given, limit_of, short_limit_of, in_turn}
use Rattle.resb_lent.specs.PlanWithPool.{NotPlannedWithBy, no_memory, own_fault, too_far}
use Rattle.resb_lent.specs.Inner.LentEndings.{AreLentEndsBy, AreStandingsBy}
use Rattle.resb_lent.specs.Inner.Within.{lent_list}
use Rattle.resb_lent.proofs.EndedBeside.{ended_by, plan_beside}
use Rattle.resb_lent.proofs.plan_with_pool.PlanWithPool.by.Goals as goal
use Rattle.resb_lent.proofs.plan_with_pool.PlanWithPool.by.Goals.{In_ok-units}

pub returns-in_err-found-clause-err : goal.returns-in_err-found-clause-err
returns-in_err-found-clause-err c =
    let p = err_from_is_err_and c.from_residual.result c.from_residual.ensures.1 in
    rw p.1 (λ block h. subst (NotPlannedWithBy c.args.packing block (nows c.args.strings.now))
    (sym p.2) no_memory)

pub returns-in_err-texts-clause-err : goal.returns-in_err-texts-clause-err
returns-in_err-texts-clause-err c =
    let p = err_from_is_err_and c.from_residual-in_err-texts.result
    c.from_residual-in_err-texts.ensures.1 in
    rw p.1 (λ block h. subst (NotPlannedWithBy c.args.packing block (nows c.args.strings.now))
    (sym p.2) no_memory)

pub returns-in_err-units-clause-err : goal.returns-in_err-units-clause-err
returns-in_err-units-clause-err c =
    let p = err_from_is_err_and c.from_residual-in_err-units.result
    c.from_residual-in_err-units.ensures.1 in
    let found = c.in_ok-found.found.items in
    let own = c.in_ok-texts.ensures.texts
    ∙ ap (lacking (nows c.args.strings.now)) c.deref.ensures.value in
    rw p.1 (λ block h. subst (NotPlannedWithBy c.args.packing block (nows c.args.strings.now))
    (sym p.2) (own_fault found (c.in_ok-found.ensures.lends block h)
    (subst (λ ss. NotPlanned ss c.in_err-units.field-0.0) own c.in_err-units.ensures.err)))

pub plan_beside-requires : goal.plan_beside-requires
plan_beside-requires c =
    let own = c.in_ok-texts.field-0.texts.items in
    subst (All (λ i. i < length own)) (sym c.deref-3.ensures.value) c.in_ok-texts.ensures.within

-- they are planned among all texts of the file and of the pool
planned : (c : In_ok-units) → (block : List ℕ) → LendsTexts c.args.lent.now block
    → (offset : List ℕ → Option ℕ)
    × IsPlanAmong c.args.packing (IsTextBeside block (nows c.args.strings.now))
    (lacking (nows c.args.strings.now) c.in_ok-found.found.items) c.in_ok-units.units.items offset
    × (map offset (lacking (nows c.args.strings.now) c.in_ok-found.found.items)
    ≡ map Some c.in_ok-units.offsets.items)
planned c block h =
    let way = c.args.packing in
    let l = c.args.lent.now in
    let S = nows c.args.strings.now in
    let utf8 = c.in_ok-found.ensures.utf8 in
    let found = c.in_ok-found.found.items in
    let own = c.in_ok-texts.field-0.texts.items in
    let es = c.in_ok-texts.field-0.ended.items in
    let us = c.in_ok-units.units.items in
    let L = lacking S found in
    let A = lent_list l ++ S in
    let is : nows own ≡ L = c.in_ok-texts.ensures.texts ∙ ap (lacking S) c.deref.ensures.value in
    let ends : AreLentEndsBy way block L es =
    subst (λ (z : List (List ℕ)). AreLentEndsBy way block z es) is
    (c.in_ok-texts.ensures.ends way block
    (subst (AreStandingsBy way block S) (sym c.deref-2.ensures.value)
    (c.in_ok-found.ensures.stand block h))) in
    let ended : AreEnded way A (nows own) c.deref-3.result.now =
    subst (AreEnded way A (nows own)) (sym c.deref-3.ensures.value)
    (subst (λ (z : List (List ℕ)). AreEnded way A z es) (sym is)
    (ended_by l block h S utf8 found es way (c.in_ok-found.ensures.lends block h) ends)) in
    let p = c.in_ok-units.ensures.ok A ended in (
      p.0,
      subst (λ (z : List (List ℕ)). IsPlanAmong way (IsTextBeside block S) z us p.0) is
          (plan_beside l block h S utf8 way (nows own) us p.0 p.1),
      subst (λ (z : List (List ℕ)). map p.0 z ≡ map Some c.in_ok-units.offsets.items) is p.2,
    )

pub returns-then-limit-own_limit-gt-INDEX_LIMIT-clause-err
    : goal.returns-then-limit-own_limit-gt-INDEX_LIMIT-clause-err
returns-then-limit-own_limit-gt-INDEX_LIMIT-clause-err c = λ block h.
    let a = (goal.at.returns-then-limit-own_limit-gt-INDEX_LIMIT-clause-err c).In_ok-units in
    let found = c.in_ok-found.found.items in
    let p = planned a block h in
    too_far found c.in_ok-units.units.items c.in_ok-units.offsets.items p.0
    (c.in_ok-found.ensures.lends block h) p.1 p.2
    (omega (
      arith,
      c.if-limit-own_limit-gt-INDEX_LIMIT.true,
      c.lent_limit-limit.ensures.is,
      ap (λ l. limit_of (given l)) c.deref-4.ensures.value,
      c.own_limit-own_limit.ensures.is,
      ap limit_of c.deref-5.ensures.value,
    ))

pub returns-in_err-indexes-clause-err : goal.returns-in_err-indexes-clause-err
returns-in_err-indexes-clause-err c =
    let p = err_from_is_err_and c.from_residual-in_err-indexes.result
    c.from_residual-in_err-indexes.ensures.1 in
    rw p.1 (λ block h. subst (NotPlannedWithBy c.args.packing block (nows c.args.strings.now))
    (sym p.2) no_memory)

pub returns-clause-ok : goal.returns-clause-ok
returns-clause-ok c = λ block h.
    let a = (goal.at.returns-clause-ok c).In_ok-units in
    let found = c.in_ok-found.found.items in
    let offsets = c.in_ok-units.offsets.items in
    let p = planned a block h in
    let limit : c.lent_limit-limit.result ≡ limit_of (given found) =
    c.lent_limit-limit.ensures.is ∙ ap (λ l. limit_of (given l)) c.deref-4.ensures.value in
    let own : c.own_limit-own_limit.result ≡ limit_of offsets =
    c.own_limit-own_limit.ensures.is ∙ ap limit_of c.deref-5.ensures.value in
    record {
      texts = c.in_ok-found.ensures.utf8;
      found = found;
      lent = c.in_ok-found.ensures.lends block h;
      offset = p.0;
      offsets = offsets;
      plan = p.1;
      offsets_are = p.2;
      limit_is = limit;
      short_is = c.short_limit.ensures ∙ ap (short_limit_of c.lent_limit-limit.result) own;
      room = omega (arith, c.if-limit-own_limit-gt-INDEX_LIMIT.false, own);
      indexes_are = c.in_ok-indexes.ensures
          ∙ ap (λ z. in_turn c.lent_limit-limit.result z c.deref-7.result.now)
          c.deref-6.ensures.value
          ∙ ap (in_turn c.lent_limit-limit.result found) c.deref-7.ensures.value;
    }
