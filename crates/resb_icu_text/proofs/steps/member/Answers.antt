use Rattle.std.proofs.Common.{arith, refl, sym, ◌∙◌}
use Rattle.resb_icu_text.proofs.QuotaLemmas.{none_taken, by_move}
use Rattle.resb_icu_text.proofs.StepsLemmas.{step_to}
use Rattle.resb_icu_grammar.specs.Machine.{array_ends, group_member}
use Rattle.resb_icu_text.proofs.steps.member.Goals as goal

pub returns-then-b-eq125-clause-reads : goal.returns-then-b-eq125-clause-reads
returns-then-b-eq125-clause-reads g c =
    let low = c.byte-b.ensures.inside (omega (arith, c.if-b-eq125.true)) in
    step_to refl tt (λ tree ws ks. by_move _ _ _ _ _
    (array_ends _ _ _ (sym c.byte-b.ensures.byte ∙ c.if-b-eq125.true)) refl (none_taken _))
    (λ pass test p h. h) (omega (arith, low), omega arith)

pub returns-then-begins_group-clause-reads : goal.returns-then-begins_group-clause-reads
returns-then-begins_group-clause-reads g c =
    step_to refl tt (λ tree ws ks. by_move _ _ _ _ _
    (group_member _ _ _ (c.begins_group.ensures.yes c.if-begins_group.true)) refl (none_taken _))
    (λ pass test p h. h) (c.requires.within, omega arith)
