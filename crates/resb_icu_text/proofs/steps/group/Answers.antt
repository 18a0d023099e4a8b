use Rattle.std.proofs.Common.{arith, refl, sym, ◌∙◌, ⊎_elim}
use Rattle.resb_icu_text.proofs.QuotaLemmas.{none_taken, by_move, match_fails, over_stops}
use Rattle.resb_icu_grammar.specs.Machine.{group_opens, before_group}
use Rattle.resb_icu_grammar.specs.Stuck.{no_group}
use Rattle.resb_icu_text.proofs.StepsLemmas.{entered, fails_at}
use Rattle.resb_icu_text.specs.Inner.Steps.{group_place, untyped_place}
use Rattle.resb_icu_text.proofs.steps.group.Goals as goal

pub returns-in_err-take-clause-reads : goal.returns-in_err-take-clause-reads
returns-in_err-take-clause-reads g c =
    match_fails _ _ _ c.from_residual.ensures.1 (λ tree ws ks. over_stops _ _ _ _ _ _
    (group_opens _ _ (sym c.byte-b.ensures.byte ∙ c.if-b-eq123.true) c.skip-next.ensures.skip)
    refl c.in_err-take.ensures refl)

pub returns-then-b-eq123-clause-reads : goal.returns-then-b-eq123-clause-reads
returns-then-b-eq123-clause-reads g c =
    entered _ (group_place _ c.args.at) (untyped_place _ c.skip-next.result) c.untyped.result
    (λ tree ws ks. by_move _ _ _ _ _ (group_opens _ _ (sym c.byte-b.ensures.byte
    ∙ c.if-b-eq123.true) c.skip-next.ensures.skip) refl c.in_ok-take.ensures)
    (λ pass test. refl) (omega (arith, c.skip-next.ensures.order)) c.untyped.ensures.reads

pub returns-clause-reads : goal.returns-clause-reads
returns-clause-reads g c =
    fails_at (λ tree. before_group) c.args.at _ _ _ (none_taken _) c.new.ensures (λ tree. refl)
    (λ tree. no_group _ (⊎_elim (λ e. c.if-b-eq123.false (c.byte-b.ensures.byte ∙ e))
    (λ e. c.if-b-eq58.false (c.byte-b.ensures.byte ∙ e))))
