use Rattle.std.proofs.Common.{arith, refl, sym, ◌∙◌}
use Rattle.resb_icu_text.proofs.QuotaLemmas.{none_taken, by_move, match_fails, over_stops}
use Rattle.resb_icu_text.proofs.StepsLemmas.{step_to, told_at}
use Rattle.resb_icu_grammar.specs.Machine.{key_of_entry, among_entries}
use Rattle.resb_icu_grammar.specs.Stuck.{no_entry}
use Rattle.resb_icu_text.specs.Inner.Build.{pairs_by}
use Rattle.resb_icu_text.proofs.steps.entry.Goals as goal

pub returns-then-byte-eq125-clause-reads : goal.returns-then-byte-eq125-clause-reads
returns-then-byte-eq125-clause-reads g c =
    let low = c.byte.ensures.inside (omega (arith, c.if-byte-eq125.true)) in
    step_to refl (sym c.byte.ensures.byte ∙ c.if-byte-eq125.true, refl)
    (λ tree ws ks limit a. a) (λ pass test p h. h) (omega (arith, low), omega arith)

pub returns-in_err-next-clause-reads : goal.returns-in_err-next-clause-reads
returns-in_err-next-clause-reads g c =
    match_fails _ _ _ c.from_residual.ensures.1
    (told_at (λ tree. among_entries (pairs_by tree c.args.entries.items)) c.args.at _ _ _
    (none_taken _) (λ tree. refl)
    (λ tree. no_entry _ _ _ _ (λ e. c.if-byte-eq125.false (c.byte.ensures.byte ∙ e)))
    c.in_err-next.ensures.reads)

pub returns-in_err-take-clause-reads : goal.returns-in_err-take-clause-reads
returns-in_err-take-clause-reads g c =
    match_fails _ _ _ c.from_residual-in_err-take.ensures.1
    (λ tree ws ks. let key = c.in_ok-next.ensures.reads in over_stops _ _ _ _ _ _
    (key_of_entry (pairs_by tree c.args.entries.items) _ _ _ _ key.stands key.after)
    ((rw c.deref.ensures.value at c.next_key_bytes-bytes.ensures) tree) c.in_err-take.ensures refl)

pub returns-clause-reads : goal.returns-clause-reads
returns-clause-reads g c =
    let key = c.in_ok-next.ensures.reads in
    step_to refl tt (λ tree ws ks. by_move _ _ _ _ _
    (key_of_entry (pairs_by tree c.args.entries.items) _ _ _ _ key.stands key.after)
    ((rw c.deref.ensures.value at c.next_key_bytes-bytes.ensures) tree) c.in_ok-take.ensures)
    (λ pass test p h. h) (key.fits, omega (arith, key.order))
