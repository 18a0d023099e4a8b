use Rattle.std.proofs.Common.{ap, arith, refl}
use Rattle.resb_icu_grammar.specs.Machine.{members_follow, entries_follow, leaf_follows}
use Rattle.resb_icu_text.specs.Inner.Kept.{members_pass, entries_pass}
use Rattle.resb_icu_text.proofs.QuotaLemmas.{none_taken, by_move, match_fails}
use Rattle.resb_icu_text.proofs.StepsLemmas.{step_to, content_leaf}
use Rattle.resb_icu_text.proofs.steps.content.Goals as goal

pub returns-in-Array-clause-reads : goal.returns-in-Array-clause-reads
returns-in-Array-clause-reads g c =
    rw c.in-Array.is (step_to refl tt (λ tree ws ks. rw c.new.ensures.items
    (by_move _ _ _ _ _ (members_follow _) refl (none_taken _)))
    (λ pass test p h. ap (λ l. members_pass l pass test) c.new.ensures.items)
    (c.requires.within, omega arith))

pub returns-in-Table-clause-reads : goal.returns-in-Table-clause-reads
returns-in-Table-clause-reads g c =
    rw c.in-Table.is (step_to refl tt (λ tree ws ks. rw c.new-in-Table.ensures.items
    (by_move _ _ _ _ _ (entries_follow _) refl (none_taken _)))
    (λ pass test p h. ap (λ l. entries_pass l pass test) c.new-in-Table.ensures.items)
    (c.requires.within, omega arith))

pub returns-in_ok-to-in_default-clause-reads : goal.returns-in_ok-to-in_default-clause-reads
returns-in_ok-to-in_default-clause-reads g c =
    let l = c.in_ok-to-in_default.ensures.reads in
    step_to (content_leaf _ _ _ _ _ l.leaf.content) tt (λ tree ws ks. by_move _ _ _ _ _
    (leaf_follows _ _ _ _ l.leaf.content l.leaf.closes) refl l.takes)
    (λ pass test p h. l.slices test p) (omega (arith, l.fits), omega (arith, l.order))

pub returns-in_err-to-in_default-clause-reads : goal.returns-in_err-to-in_default-clause-reads
returns-in_err-to-in_default-clause-reads g c =
    match_fails _ _ _ c.from_residual.ensures.1
    (λ tree ws ks. c.in_err-to-in_default.ensures.reads ws ks)
