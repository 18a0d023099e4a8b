use Rattle.std.proofs.Common.{arith, sym, ◌∙◌, refl, map}
use Rattle.resb_icu_text.proofs.QuotaLemmas.{none_taken, by_move}
use Rattle.resb_icu_text.proofs.StepsLemmas.{step_to, fails_at}
use Rattle.resb_icu_grammar.specs.Machine.{among_members, comma_behind}
use Rattle.resb_icu_grammar.specs.Stuck.{lone_comma}
use Rattle.resb_icu_text.specs.Inner.Steps.{last_of}
use Rattle.resb_icu_text.proofs.steps.comma.Goals as goal

pub returns-then-is_member-clause-reads : goal.returns-then-is_member-clause-reads
returns-then-is_member-clause-reads g c =
    step_to refl tt (λ tree ws ks. by_move _ _ _ _ _
    (comma_behind _ _ _ _ (sym c.is_member.ensures ∙ c.if-is_member.true) c.requires.comma
    c.skip-next.ensures.skip) refl (none_taken _))
    (λ pass test p h. h) (c.skip-next.ensures.fits, omega (arith, c.skip-next.ensures.order))

pub returns-else-is_member-clause-reads : goal.returns-else-is_member-clause-reads
returns-else-is_member-clause-reads g c =
    fails_at (λ tree. among_members (last_of c.args.last) (map tree c.args.members.items))
    c.args.at _ _ _ (none_taken _) c.new.ensures (λ tree. refl)
    (λ tree. lone_comma _ _ _ (sym c.is_member.ensures ∙ c.if-is_member.false) c.requires.comma)
