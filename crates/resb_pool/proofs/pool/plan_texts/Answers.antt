use Rattle.std.proofs.Common.{ℕ, List, Bor, refl, sym, subst, arith}
use Rattle.std.specs.List.{Contains}
use Rattle.std.proofs.lemmas.Result.{err_from_is_err_and}
use Rattle.resb_pool.specs.Plan.{nows, no_memory}
use Rattle.resb_pool.specs.Inner.Placing.{AreTexts}
use Rattle.resb_pool.specs.Inner.LaidRecords.{HaveOffsets}
use Rattle.resb_pool.specs.declared.packing.Packing.TheVariants.{Plain}
use Rattle.resb_pool.proofs.Planned.{plan_of_keys, turns_of_keys}
use Rattle.resb_pool.proofs.pool.plan_texts.Goals as goal
use Rattle.resb_pool.proofs.pool.plan_texts.Goals.{In_ok-units}

pub place-requires : goal.place-requires
place-requires c =
    let S = c.requires.0 in
    let told = c.requires.1 in
    record {
      given = (
        S,
        told.small,
        subst (AreTexts S (nows c.as_slice.result.now)) (sym c.deref.ensures.value)
            (subst (λ (z : List (Bor (List ℕ))). AreTexts S (nows z) c.args.texts.measures.items)
            (sym c.as_slice.ensures.keys) told.texts),
      );
      within = λ i d l. absurd (omega (arith, l));
    }

pub returns-in_err-units-clause-err : goal.returns-in_err-units-clause-err
returns-in_err-units-clause-err c =
    let p = err_from_is_err_and c.from_residual.result c.from_residual.ensures.1 in
    rw (p.1, p.2) (λ S. no_memory)

-- the texts as they stand once they are placed
laid : (c : In_ok-units) → (S : List (List ℕ)) → HaveOffsets Plain (Contains S)
    (nows c.args.texts.distinct.keys) c.args.texts.measures.items
    c.in_ok-units.units.items c.in_ok-units.offsets.items
laid c S =
    let keys = c.args.texts.distinct.keys in
    let us = c.in_ok-units.units.items in
    let os = c.in_ok-units.offsets.items in
    subst (λ z. HaveOffsets Plain (Contains S) (nows keys) z us os) c.deref.ensures.value
    (subst (λ (z : List (Bor (List ℕ))). HaveOffsets Plain (Contains S) (nows z)
    c.deref.result.now us os)
    c.as_slice.ensures.keys (c.in_ok-units.ensures S refl))

pub returns-clause-ok : goal.returns-clause-ok
returns-clause-ok c = λ S told. plan_of_keys Plain (Contains S) S c.args.texts.distinct.keys
    c.args.texts.measures.items c.in_ok-units.units.items c.in_ok-units.offsets.items told.texts
    (laid (goal.at.returns-clause-ok c).In_ok-units S) told.short told.small

pub returns-clause-turns : goal.returns-clause-turns
returns-clause-turns c = λ S told. turns_of_keys Plain (Contains S) S c.args.texts.distinct.keys
    c.args.texts.measures.items c.in_ok-units.units.items c.in_ok-units.offsets.items told.texts
    (laid (goal.at.returns-clause-turns c).In_ok-units S) c.args.texts.order.items told.turns
