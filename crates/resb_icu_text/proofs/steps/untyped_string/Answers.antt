use Rattle.std.proofs.Common.{ap, arith, refl, sym, ◌∙◌}
use Rattle.resb_icu_text.specs.Inner.Kept.{entries_pass}
use Rattle.resb_icu_text.specs.Inner.Steps.{untyped_place}
use Rattle.resb_icu_text.proofs.QuotaLemmas.{none_taken, by_move, match_fails, over_stops}
use Rattle.resb_icu_text.proofs.StepsLemmas.{untyped_one, untyped_comma, step_to, told_at, no_key}
use Rattle.resb_icu_text.proofs.StepsLemmas.{lacks, text_made, key_ahead, is_a_key, fails_at}
use Rattle.resb_icu_grammar.specs.Machine.{in_untyped, begins_with_string, begins_with_key}
use Rattle.resb_icu_grammar.specs.Machine as move
use Rattle.resb_icu_grammar.specs.Stuck.{no_further}
use Rattle.resb_icu_grammar.specs.Stuck as stuck
use Rattle.resb_icu_text.proofs.steps.untyped_string.Goals as goal

pub returns-in_err-found-clause-reads : goal.returns-in_err-found-clause-reads
returns-in_err-found-clause-reads g c =
    match_fails _ _ _ c.from_residual.ensures.1
    (told_at (λ tree. in_untyped) c.args.at _ _ _ (none_taken _) (λ tree. refl)
    (λ tree. stuck.no_content _ _ _ c.requires.no_brace c.requires.no_group)
    c.in_err-found.ensures.reads)

pub returns-in_err-take-clause-reads : goal.returns-in_err-take-clause-reads
returns-in_err-take-clause-reads g c =
    match_fails _ _ _ c.from_residual-in_err-take.ensures.1
    (λ tree ws ks. let is = c.in_ok-found.ensures.reads in over_stops _ _ _ _ _ _
    (move.untyped_string _ _ _ _ is.string is.blanks
    (sym c.byte-b.ensures.byte ∙ c.if-b-eq125.true))
    (omega (arith, c.bytes_made.ensures.made is.said is.string)) c.in_err-take.ensures refl)

pub returns-in_err-said-clause-reads : goal.returns-in_err-said-clause-reads
returns-in_err-said-clause-reads g c =
    match_fails _ _ _ c.from_residual-in_err-said.ensures.1
    (lacks (untyped_place _ c.args.at) _ c.in_ok-take.ensures refl)

pub returns-then-b-eq125-clause-reads : goal.returns-then-b-eq125-clause-reads
returns-then-b-eq125-clause-reads g c =
    untyped_one c.args.at c.in_ok-found.found c.in_ok-said.said
    c.in_ok-take.ensures (λ s e. omega (arith, c.bytes_made.ensures.made s e))
    (c.byte-b.ensures.inside (omega (arith, c.if-b-eq125.true)))
    (sym c.byte-b.ensures.byte ∙ c.if-b-eq125.true)
    (text_made c.in_ok-found.ensures.reads c.in_ok-said.ensures.says)

pub returns-in_err-take-2-clause-reads : goal.returns-in_err-take-2-clause-reads
returns-in_err-take-2-clause-reads g c =
    match_fails _ _ _ c.from_residual-in_err-take-2.ensures.1
    (λ tree ws ks. let is = c.in_ok-found.ensures.reads in over_stops _ _ _ _ _ _
    (begins_with_string _ _ _ _ is.string is.blanks
    (sym c.byte-b.ensures.byte ∙ c.if-b-eq44.true))
    (omega (arith, c.bytes_made-then-b-eq44.ensures.made is.said is.string))
    c.in_err-take-2.ensures refl)

pub returns-in_err-said-2-clause-reads : goal.returns-in_err-said-2-clause-reads
returns-in_err-said-2-clause-reads g c =
    match_fails _ _ _ c.from_residual-in_err-said-2.ensures.1
    (lacks (untyped_place _ c.args.at) _ c.in_ok-take-2.ensures refl)

pub returns-then-b-eq44-clause-reads : goal.returns-then-b-eq44-clause-reads
returns-then-b-eq44-clause-reads g c =
    untyped_comma c.new.result c.args.at c.in_ok-found.found c.in_ok-said-2.said
    c.in_ok-take-2.ensures
    (λ s e. omega (arith, c.bytes_made-then-b-eq44.ensures.made s e))
    (sym c.byte-b.ensures.byte ∙ c.if-b-eq44.true)
    (text_made c.in_ok-found.ensures.reads c.in_ok-said-2.ensures.says)
    c.new.ensures.items

pub returns-then-not-begins_group-clause-reads : goal.returns-then-not-begins_group-clause-reads
returns-then-not-begins_group-clause-reads g c =
    let is = c.in_ok-found.ensures.reads in
    fails_at (λ tree. in_untyped) c.args.at _ _ _ (none_taken _)
    c.new-then-not-begins_group.ensures (λ tree. refl)
    (λ tree. no_further _ _ _ _ is.string is.blanks
    (λ e. c.if-b-eq125.false (c.byte-b.ensures.byte ∙ e))
    (λ e. c.if-b-eq44.false (c.byte-b.ensures.byte ∙ e))
    (c.begins_group.ensures.no c.if-not-begins_group.true))

pub returns-in_default-clause-reads : goal.returns-in_default-clause-reads
returns-in_default-clause-reads g c =
    let found = c.in_ok-found.ensures.reads in
    fails_at (λ tree. in_untyped) c.args.at _ _ _ (none_taken _) c.new-in_default.ensures
    (λ tree. refl) (λ tree. stuck.no_key _ _ _ _ found.string found.blanks
    (c.begins_group.ensures.yes c.if-not-begins_group.false)
    (no_key _ _ c.in_ok-found.found found c.in_default.ensures.key))

pub returns-in_err-take-3-clause-reads : goal.returns-in_err-take-3-clause-reads
returns-in_err-take-3-clause-reads g c =
    let found = c.in_ok-found.ensures.reads in
    match_fails _ _ _ c.from_residual-in_err-take-3.ensures.1
    (λ tree ws ks. over_stops _ _ _ _ _ _ (begins_with_key _ _ _ _
    (is_a_key _ _ c.in_ok-found.found c.in-Some.key found c.in-Some.ensures.key) found.blanks
    (c.begins_group.ensures.yes c.if-not-begins_group.false))
    (omega (arith, c.key_bytes.ensures)) c.in_err-take-3.ensures refl)

pub returns-clause-reads : goal.returns-clause-reads
returns-clause-reads g c =
    let found = c.in_ok-found.ensures.reads in
    let key = key_ahead _ _ c.in_ok-found.found c.in-Some.key found c.in-Some.ensures.key in
    step_to refl tt (λ tree ws ks. rw c.new-2.ensures.items (by_move _ _ _ _ _
    (begins_with_key _ _ _ _ key.stands key.after
    (c.begins_group.ensures.yes c.if-not-begins_group.false))
    (omega (arith, c.key_bytes.ensures)) c.in_ok-take-3.ensures))
    (λ pass test p h. ap (λ l. entries_pass l pass test) c.new-2.ensures.items)
    (key.fits, omega (arith, key.order))
