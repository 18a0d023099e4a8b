use Rattle.std.proofs.Common.{ℕ, List, Bor, sym, subst}
use Rattle.std.proofs.lemmas.Result.{err_from_is_err_and}
use Rattle.resb_pool.specs.Plan.{nows, no_memory}
use Rattle.resb_pool.specs.Inner.Placing.{AreTexts}
use Rattle.resb_pool.proofs.shared_pool.records.Goals as goal

pub ranked_texts-requires : goal.ranked_texts-requires
ranked_texts-requires c =
    let S = nows c.args.strings.now in
    let told = c.in_ok-texts.ensures.ok in
    record {
      given = (
        S,
        told.small,
        subst (AreTexts S (nows c.as_slice.result.now)) (sym c.deref.ensures.value)
            (subst (λ (z : List (Bor (List ℕ))). AreTexts S (nows z)
            c.in_ok-texts.texts.measures.items) (sym c.as_slice.ensures.keys) told.texts),
      );
    }

pub returns-in_err-ranked_texts-clause-err : goal.returns-in_err-ranked_texts-clause-err
returns-in_err-ranked_texts-clause-err c =
    let r = c.from_residual-in_err-ranked_texts in
    let p = err_from_is_err_and r.result r.ensures.1 in rw (p.1, p.2) no_memory

pub returns-clause-ok : goal.returns-clause-ok
returns-clause-ok c =
    let S = nows c.args.strings.now in
    let told = c.in_ok-texts.ensures.ok in
    c.in_ok-ranked_texts.ensures S told.small
    (subst (AreTexts S (nows c.as_slice.result.now)) (sym c.deref.ensures.value)
    (subst (λ (z : List (Bor (List ℕ))). AreTexts S (nows z)
    c.in_ok-texts.texts.measures.items) (sym c.as_slice.ensures.keys) told.texts))
