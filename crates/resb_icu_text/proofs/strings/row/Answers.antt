use Rattle.std.proofs.Common.{◌≡◌, false, ◌+◌, ◌≤◌, ⊎_elim, inl, inr, arith, refl, subst, sym}
use Rattle.std.proofs.Common.{◌∙◌, ◌∷◌, []}
use Rattle.std.proofs.lemmas.Bool.{false≢true, and_parts}
use Rattle.resb_icu_grammar.specs.Unquoted.{Unquoted, one_more, begins_unquoted}
use Rattle.resb_icu_text.proofs.LengthLemmas.{word_short, white_moves}
use Rattle.resb_icu_text.proofs.PartsLemmas.{walked_none, walked_more}
use Rattle.resb_icu_text.proofs.ReachLemmas.{reach_begun}
use Rattle.resb_icu_text.proofs.StringsLemmas.{word_found, row_found}
use Rattle.resb_icu_text.proofs.strings.row.Goals as goal

pub row-init : goal.row-init
row-init c = record {
  fits = c.requires.within;
  begun = inl refl;
  short = omega arith;
  walked = walked_none;
  cost = omega (arith, c.add.ensures.most);
}

pub returns-in_default-clause-reads : goal.returns-in_default-clause-reads
returns-in_default-clause-reads c = (
  λ to s w. ⊎_elim (λ e. c.in_default.ensures.none to s
      (subst (λ i. Unquoted c.args.text.now i to s) (sym e) w))
      (λ b. false≢true (sym c.in_default.ensures.stops ∙ b.1)) c.row.invariant.begun,
  ⊎_elim (λ e. subst (λ i. begins_unquoted c.args.text.now i ≡ false) e c.in_default.ensures.stops)
      (λ b. absurd (false≢true (sym c.in_default.ensures.stops ∙ b.1))) c.row.invariant.begun,
)

pub returns-in_default-clause-cost : goal.returns-in_default-clause-cost
returns-in_default-clause-cost c =
    ⊎_elim (λ e. omega (arith, e, c.row.invariant.cost))
    (λ b. absurd (false≢true (sym c.in_default.ensures.stops ∙ b.1))) c.row.invariant.begun

pub row-preserved : goal.row-preserved
row-preserved c =
    let text = c.args.text.now in
    let both = and_parts _ _ (sym c.row_goes_on.ensures ∙ c.if-row_goes_on.true) in
    let white = both.0 in
    let begins = both.1 in
    let low = white_moves text c.in-Some.end c.skip-next.result white c.skip-next.ensures.skip in
    let word = c.in-Some.ensures.found in
    record {
      fits = c.skip-next.ensures.fits;
      begun = inr (omega (arith, c.row.invariant.short, word.some, low), begins);
      short = omega (
        arith,
        c.row.invariant.short,
        word_short text c.row.at c.in-Some.end _ word,
        low,
      );
      walked = walked_more _ (32 ∷ []) word
          (λ to later r. one_more _ _ _ to _ later word white c.skip-next.ensures.skip r)
          refl c.skip-next.ensures.order (omega (arith, word.some, low)) c.row.invariant.walked;
      cost = omega (
        arith,
        c.row.invariant.cost,
        reach_begun text c.skip-next.result (inr begins),
        c.add-in-row.ensures.most,
        c.skip-next.ensures.cost,
        word.some,
        low,
      );
    }

pub returns-then-at-from-clause-reads : goal.returns-then-at-from-clause-reads
returns-then-at-from-clause-reads c =
    let word = subst (λ i. Unquoted c.args.text.now i c.in-Some.end c.in-Some.string.now)
    c.if-at-from.true c.in-Some.ensures.found in
    word_found c.args.text.now c.args.from c.in-Some.end c.skip-next.result c.in-Some.string word
    c.skip-next.ensures.skip (sym c.row_goes_on.ensures ∙ c.if-row_goes_on.false)
    c.skip-next.ensures.order c.skip-next.ensures.fits

pub returns-then-at-from-clause-cost : goal.returns-then-at-from-clause-cost
returns-then-at-from-clause-cost c =
    let is = returns-then-at-from-clause-reads c in
    omega (
      arith,
      is.here,
      is.low,
      c.if-at-from.true,
      c.row.invariant.cost,
      c.add-in-row.ensures.most,
      c.skip-next.ensures.cost,
      c.skip-next.ensures.order,
      c.in-Some.ensures.found.some,
    )

pub returns-else-at-from-clause-reads : goal.returns-else-at-from-clause-reads
returns-else-at-from-clause-reads c =
    row_found c.args.text.now c.args.from c.row.at c.in-Some.end c.skip-next.result _ _ _
    c.skip-next.ensures.skip c.skip-next.ensures.order c.skip-next.ensures.fits refl
    c.in-Some.ensures.found (sym c.row_goes_on.ensures ∙ c.if-row_goes_on.false)
    c.if-at-from.false c.row.invariant.walked

pub returns-else-at-from-clause-cost : goal.returns-else-at-from-clause-cost
returns-else-at-from-clause-cost c =
    let is = returns-else-at-from-clause-reads c in
    let apart : c.args.from + 2 ≤ c.row.at =
    ⊎_elim (λ e. absurd (c.if-at-from.false e)) (λ b. b.0) c.row.invariant.begun in
    omega (
      arith,
      is.here,
      is.low,
      apart,
      c.row.invariant.cost,
      c.add-in-row.ensures.most,
      c.skip-next.ensures.cost,
      c.skip-next.ensures.order,
      c.in-Some.ensures.found.some,
    )

pub returns-then-at-from-clause-cheap : goal.returns-then-at-from-clause-cheap
returns-then-at-from-clause-cheap c =
    let is = returns-then-at-from-clause-reads c in
    omega (
      arith,
      is.low,
      c.if-at-from.true,
      c.row.invariant.cost,
      c.add-in-row.ensures.most,
      c.skip-next.ensures.cost,
      c.skip-next.ensures.order,
      c.in-Some.ensures.found.some,
    )

pub returns-else-at-from-clause-cheap : goal.returns-else-at-from-clause-cheap
returns-else-at-from-clause-cheap c =
    let is = returns-else-at-from-clause-reads c in
    let apart : c.args.from + 2 ≤ c.row.at =
    ⊎_elim (λ e. absurd (c.if-at-from.false e)) (λ b. b.0) c.row.invariant.begun in
    omega (
      arith,
      is.low,
      apart,
      c.row.invariant.cost,
      c.add-in-row.ensures.most,
      c.skip-next.ensures.cost,
      c.skip-next.ensures.order,
      c.in-Some.ensures.found.some,
    )
