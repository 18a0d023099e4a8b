use Rattle.std.proofs.Common.{ap, arith, refl, sym, ◌∙◌}
use Rattle.resb_icu_text.proofs.QuotaLemmas.{none_taken, by_move}
use Rattle.resb_icu_text.proofs.StepsLemmas.{step_to}
use Rattle.resb_icu_grammar.specs.Machine.{untyped_nothing, begins_with_group}
use Rattle.resb_icu_text.specs.Inner.Kept.{members_pass}
use Rattle.resb_icu_text.proofs.steps.untyped.Goals as goal

pub returns-then-byte-eq125-clause-reads : goal.returns-then-byte-eq125-clause-reads
returns-then-byte-eq125-clause-reads g c =
    let low = c.byte.ensures.inside (omega (arith, c.if-byte-eq125.true)) in
    step_to refl tt (λ tree ws ks. rw c.new.ensures.items (by_move _ _ _ _ _
    (untyped_nothing _ (sym c.byte.ensures.byte ∙ c.if-byte-eq125.true)) refl (none_taken _)))
    (λ pass test p h. ap (λ l. members_pass l pass test) c.new.ensures.items)
    (omega (arith, low), omega arith)

pub returns-then-begins_group-clause-reads : goal.returns-then-begins_group-clause-reads
returns-then-begins_group-clause-reads g c =
    step_to refl tt (λ tree ws ks. rw c.new-members.ensures.items (by_move _ _ _ _ _
    (begins_with_group _ (c.begins_group.ensures.yes c.if-begins_group.true)) refl (none_taken _)))
    (λ pass test p h. ap (λ l. members_pass l pass test) c.new-members.ensures.items)
    (c.requires.within, omega arith)
