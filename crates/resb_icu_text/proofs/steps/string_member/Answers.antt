use Rattle.std.proofs.Common.{arith, refl, sym, ◌∙◌, map}
use Rattle.resb_icu_text.specs.Inner.Steps.{members_place, last_of}
use Rattle.resb_icu_text.proofs.QuotaLemmas.{none_taken, match_fails, over_stops}
use Rattle.resb_icu_text.proofs.StepsLemmas.{member_string, fails_at, told_at, lacks, text_made}
use Rattle.resb_icu_grammar.specs.Machine.{among_members}
use Rattle.resb_icu_grammar.specs.Machine as move
use Rattle.resb_icu_grammar.specs.Stuck.{two_strings, no_member}
use Rattle.resb_icu_text.proofs.steps.string_member.Goals as goal

pub returns-in_err-found-clause-reads : goal.returns-in_err-found-clause-reads
returns-in_err-found-clause-reads g c =
    match_fails _ _ _ c.from_residual.ensures.1
    (told_at (λ tree. among_members (last_of c.args.last) (map tree c.args.members.items))
    c.args.at _ _ _ (none_taken _) (λ tree. refl)
    (λ tree g u. no_member _ _ _ _ _ c.requires.no_brace c.requires.no_comma
    c.requires.no_group g (rw c.member_behind.ensures at u)) c.in_err-found.ensures.reads)

pub returns-then-is_string-clause-reads : goal.returns-then-is_string-clause-reads
returns-then-is_string-clause-reads g c =
    fails_at (λ tree. among_members (last_of c.args.last) (map tree c.args.members.items))
    c.args.at _ _ _ (none_taken _) c.new.ensures (λ tree. refl)
    (λ tree. two_strings _ _ _ _ _ (sym c.is_string.ensures ∙ c.if-is_string.true)
    c.in_ok-found.ensures.reads.string)

pub returns-in_err-take-clause-reads : goal.returns-in_err-take-clause-reads
returns-in_err-take-clause-reads g c =
    match_fails _ _ _ c.from_residual-in_err-take.ensures.1
    (λ tree ws ks. let is = c.in_ok-found.ensures.reads in over_stops _ _ _ _ _ _
    (move.string_member _ _ _ _ _ _ (sym c.is_string.ensures ∙ c.if-is_string.false) is.string
    is.blanks) (omega (arith, c.bytes_made.ensures.made is.said is.string))
    c.in_err-take.ensures refl)

pub returns-in_err-said-clause-reads : goal.returns-in_err-said-clause-reads
returns-in_err-said-clause-reads g c =
    match_fails _ _ _ c.from_residual-in_err-said.ensures.1
    (lacks (members_place c.args.members.items c.args.last c.args.at) _
    c.in_ok-take.ensures refl)

pub returns-clause-reads : goal.returns-clause-reads
returns-clause-reads g c =
    member_string c.args.members c.args.last c.args.at c.in_ok-found.found c.in_ok-said.said
    c.in_ok-take.ensures (λ s e. omega (arith, c.bytes_made.ensures.made s e))
    (sym c.is_string.ensures ∙ c.if-is_string.false)
    (text_made c.in_ok-found.ensures.reads c.in_ok-said.ensures.says)
