use Rattle.std.proofs.Common.{◌+◌, ◌≤◌, arith, refl, sym, ◌∙◌}
use Rattle.resb_icu_text.proofs.QuotaLemmas.{none_taken, by_move, match_fails, over_stops}
use Rattle.resb_icu_grammar.specs.Machine.{type_opens, before_group}
use Rattle.resb_icu_grammar.specs.Stuck.{no_brace}
use Rattle.resb_icu_text.proofs.StepsLemmas.{entered, no_type, fails_at, opening_there}
use Rattle.resb_icu_text.specs.Inner.Steps.{group_place, typed_place}
use Rattle.resb_icu_text.proofs.steps.typed.Goals as goal

pub returns-in_err-end-clause-reads : goal.returns-in_err-end-clause-reads
returns-in_err-end-clause-reads g c =
    match_fails _ _ _ c.from_residual.ensures.1
    (no_type c.args.at _ (none_taken _) c.in_err-end.ensures.err c.requires.colon)

pub returns-then-byte-ne123-clause-reads : goal.returns-then-byte-ne123-clause-reads
returns-then-byte-ne123-clause-reads g c =
    fails_at (λ tree. before_group) c.args.at _ _ _ (none_taken _) c.new.ensures (λ tree. refl)
    (λ tree. no_brace _ _ _ _ c.in_ok-end.ensures.found c.skip-brace.ensures.skip
    (λ e. c.if-byte-ne123.true (c.byte.ensures.byte ∙ e)))

pub returns-in_err-take-clause-reads : goal.returns-in_err-take-clause-reads
returns-in_err-take-clause-reads g c =
    let opens = opening_there _ _ _ _ c.skip-first.result _ c.in_ok-end.ensures.found
    c.skip-brace.ensures.skip (sym c.byte.ensures.byte ∙ c.if-byte-ne123.false)
    c.skip-first.ensures.skip in
    match_fails _ _ _ c.from_residual-in_err-take.ensures.1
    (λ tree ws ks. over_stops _ _ _ _ _ _ (type_opens _ _ _ opens) c.opening_bytes.ensures
    c.in_err-take.ensures refl)

pub returns-clause-reads : goal.returns-clause-reads
returns-clause-reads g c =
    let opens = opening_there _ _ _ _ c.skip-first.result _ c.in_ok-end.ensures.found
    c.skip-brace.ensures.skip (sym c.byte.ensures.byte ∙ c.if-byte-ne123.false)
    c.skip-first.ensures.skip in
    let first = c.skip-first.result in
    let order : c.args.at + 1 ≤ first = omega (arith, c.in_ok-end.ensures.within) in
    entered _ (group_place _ c.args.at) (typed_place _ c.in_ok-end.kind first)
    c.content.result (λ tree ws ks. by_move _ _ _ _ _ (type_opens _ _ _ opens)
    c.opening_bytes.ensures c.in_ok-take.ensures) (λ pass test. refl) (omega (arith, order))
    c.content.ensures.reads
