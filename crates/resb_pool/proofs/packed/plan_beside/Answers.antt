use Rattle.std.proofs.Common.{◌≡◌, ◌<◌, ℕ, List, Bor, Some, map, slice_index, length, sym, ◌∙◌, ap}
use Rattle.std.proofs.Common.{subst, arith}
use Rattle.std.specs.List.{All, Contains}
use Rattle.std.proofs.lemmas.Result.{err_from_is_err_and}
use Rattle.resb_pool.specs.Ended.{AreEnded}
use Rattle.resb_pool.specs.Plan.{nows, no_memory}
use Rattle.resb_pool.specs.Inner.Placing.{AreTexts}
use Rattle.resb_pool.specs.Inner.LaidRecords.{HaveOffsets}
use Rattle.resb_pool.proofs.Endings.{indexes, indexes_within, ended_texts}
use Rattle.resb_pool.proofs.Interning.{length-nows}
use Rattle.resb_pool.proofs.Planned.{offset_in, plan_of_keys, turns_of_keys}
use Rattle.resb_pool.proofs.packed.plan_beside.Goals as goal
use Rattle.resb_pool.proofs.packed.plan_beside.Goals.{In_ok-ended}

pub returns-in_err-ended-clause-err : goal.returns-in_err-ended-clause-err
returns-in_err-ended-clause-err c =
    let r = c.from_residual-in_err-ended in
    let p = err_from_is_err_and r.result r.ensures.1 in rw (p.1, p.2) no_memory

pub returns-in_err-units-clause-err : goal.returns-in_err-units-clause-err
returns-in_err-units-clause-err c =
    let r = c.from_residual-in_err-units in
    let p = err_from_is_err_and r.result r.ensures.1 in rw (p.1, p.2) no_memory

-- the indexes of the texts that other texts end with
ended_is : (c : In_ok-ended) → c.in_ok-ended.ended.items
    ≡ indexes c.in_ok-list.list.order.items c.args.ended.now
ended_is c = c.in_ok-ended.ensures ∙ ap (λ z. indexes z c.args.ended.now) c.deref.ensures.value

-- they are those of texts
all_within : (c : In_ok-ended) → All (λ i. i < length (nows c.in_ok-list.list.texts.items))
    c.in_ok-ended.ended.items
all_within c =
    let S = nows c.args.strings.items in
    let T = nows c.in_ok-list.list.texts.items in
    subst (All (λ i. i < length T)) (sym (ended_is c))
    (indexes_within S T c.in_ok-list.list.order.items c.in_ok-list.ensures.ok.turns
    c.args.ended.now
    (λ i d l. omega (arith, c.requires i d l, length-nows c.args.strings.items)))

pub place-requires : goal.place-requires
place-requires c =
    let S = nows c.args.strings.items in
    let told = c.in_ok-list.ensures.ok in
    let ms = c.in_ok-list.list.measures.items in
    let within = all_within (goal.at.place-requires c).In_ok-ended in
    record {
      given = (
        S,
        told.small,
        subst (AreTexts S (nows c.deref-2.result.now)) (sym c.deref-3.ensures.value)
            (subst (λ (z : List (Bor (List ℕ))). AreTexts S (nows z) ms)
            (sym c.deref-2.ensures.value) told.texts),
      );
      within = subst (All (λ i. i < length c.deref-2.result.now)) (sym c.deref-4.ensures.value)
          (λ i d l. omega (
            arith,
            within i d l,
            length-nows c.in_ok-list.list.texts.items,
            ap length c.deref-2.ensures.value,
          ));
    }

pub returns-clause-ok : goal.returns-clause-ok
returns-clause-ok c = λ A ended.
    let way = c.args.packing in
    let S = nows c.args.strings.items in
    let list = c.in_ok-list.list in
    let keys = list.texts.items in
    let ms = list.measures.items in
    let turns = list.order.items in
    let us = c.in_ok-units.units.items in
    let os = c.in_ok-units.offsets.items in
    let told = c.in_ok-list.ensures.ok in
    let numbers = c.args.ended.now in
    let texts : AreEnded way A (nows keys) (indexes turns numbers) =
    ended_texts S (nows keys) turns told.turns told.texts.same told.texts.once A numbers
    (λ i d l. omega (arith, c.requires i d l, length-nows c.args.strings.items)) way ended in
    let given : AreEnded way A (nows c.deref-2.result.now) c.deref-4.result.now =
    subst (λ (z : List (Bor (List ℕ))). AreEnded way A (nows z) c.deref-4.result.now)
    (sym c.deref-2.ensures.value)
    (subst (AreEnded way A (nows keys)) (sym (c.deref-4.ensures.value
    ∙ ended_is (goal.at.returns-clause-ok c).In_ok-ended)) texts) in
    let laid = subst (λ z. HaveOffsets way (Contains A) (nows keys) z us os)
    c.deref-3.ensures.value
    (subst (λ (z : List (Bor (List ℕ))).
    HaveOffsets way (Contains A) (nows z) c.deref-3.result.now us os)
    c.deref-2.ensures.value (c.in_ok-units.ensures A given)) in (
      offset_in keys os,
      plan_of_keys way (Contains A) S keys ms us os told.texts laid told.short told.small,
      turns_of_keys way (Contains A) S keys ms us os told.texts laid turns told.turns
          ∙ ap (map Some) (sym (c.in_turn.ensures
          ∙ ap (λ z. map (slice_index z) turns) c.deref-5.ensures.value)),
    )
