use Rattle.std.proofs.Common.{subst, refl, inl, inr}
use Rattle.std.proofs.lemmas.Result.{IfOk-weaker, IfErr-weaker}
use Rattle.resb_zoneinfo.specs.Leading.{LeadsTo}
use Rattle.resb_zoneinfo.specs.Names.{IsNumberOf, HasNoName}
use Rattle.resb_zoneinfo.proofs.data.ZoneInfo.zone.Goals as goal

pub returns-in_default-clause-refused : goal.returns-in_default-clause-refused
returns-in_default-clause-refused c =
    inl
    (subst (λ names. HasNoName names c.args.name.now) c.deref.ensures.value
    (subst (λ name. HasNoName c.deref.result.now name) c.as_bytes.ensures.value
    c.in_default.ensures))

pub returns-clause-said : goal.returns-clause-said
returns-clause-said c =
    let named = subst (λ names. IsNumberOf names c.args.name.now c.in-Some.number)
    c.deref.ensures.value
    (subst (λ name. IsNumberOf c.deref.result.now name c.in-Some.number)
    c.as_bytes.ensures.value c.in-Some.ensures) in
    let leads = subst (λ zones. LeadsTo zones c.in-Some.number c.in_ok-table.table.now)
    c.deref-2.ensures.value c.in_ok-table.ensures.said in
    IfOk-weaker c.checked.result _ _
    (λ z is.
    record {
      number = c.in-Some.number;
      named = named;
      fields = c.in_ok-table.table.now.0;
      leads = (c.in_ok-table.table.now, leads, refl);
      is = is;
    })
    c.checked.ensures.said

pub returns-clause-refused : goal.returns-clause-refused
returns-clause-refused c =
    let named = subst (λ names. IsNumberOf names c.args.name.now c.in-Some.number)
    c.deref.ensures.value
    (subst (λ name. IsNumberOf c.deref.result.now name c.in-Some.number)
    c.as_bytes.ensures.value c.in-Some.ensures) in
    let leads = subst (λ zones. LeadsTo zones c.in-Some.number c.in_ok-table.table.now)
    c.deref-2.ensures.value c.in_ok-table.ensures.said in
    IfErr-weaker c.checked.result _ _
    (λ e fault.
    inr
    (inr
    record {
      number = c.in-Some.number;
      named = named;
      fields = c.in_ok-table.table.now.0;
      leads = (c.in_ok-table.table.now, leads, refl);
      fault = fault;
    }))
    c.checked.ensures.refused
