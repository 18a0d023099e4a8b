use Rattle.std.proofs.Common.{sym, ◌∙◌}
use Rattle.resb_format.specs.Descriptor.{type_number}
use Rattle.resb_read.specs.Places.{place_of}
use Rattle.resb_path.proofs.StepLemmas.{entry_answers, member_answers, no_number_said}
use Rattle.resb_path.proofs.StepLemmas.{nothing_inside, untyped, has_none, no_number_here}
use Rattle.resb_path.proofs.StepLemmas.{unread_list}
use Rattle.resb_path.proofs.WayLemmas.{entry_leads, member_leads, no_number_leads, nothing_leads}
use Rattle.resb_path.proofs.file.step.Goals as goal

pub returns-in_err-kind-clause-tree : goal.returns-in_err-kind-clause-tree
returns-in_err-kind-clause-tree c = λ s is.
    let p = place_of c.args.at in
    absurd (untyped p (no_number_here _ p.at c.as_int_vector.result c.as_int_vector.ensures
    (sym c.is_some.ensures ∙ c.if-is_some.false)) c.in_err-kind.ensures.0 s is)

pub returns-then-has_entries-clause-leads : goal.returns-then-has_entries-clause-leads
returns-then-has_entries-clause-leads c =
    entry_leads (place_of c.args.at) (type_number c.in_ok-kind.kind) c.in_ok-kind.ensures
    c.args.name.now (sym c.if-has_entries.ensures) c.entry.result c.entry.ensures

pub returns-then-has_entries-clause-tree : goal.returns-then-has_entries-clause-tree
returns-then-has_entries-clause-tree c =
    entry_answers (place_of c.args.at) (type_number c.in_ok-kind.kind) c.in_ok-kind.ensures
    (sym c.if-has_entries.ensures) c.args.name.now c.entry.result c.entry.ensures

pub returns-then-not-has_members-clause-leads : goal.returns-then-not-has_members-clause-leads
returns-then-not-has_members-clause-leads c =
    nothing_leads (place_of c.args.at) (type_number c.in_ok-kind.kind) c.in_ok-kind.ensures
    c.args.name.now (sym c.if-has_entries.ensures) (sym c.if-not-has_members.ensures)

pub returns-then-not-has_members-clause-tree : goal.returns-then-not-has_members-clause-tree
returns-then-not-has_members-clause-tree c =
    let type = type_number c.in_ok-kind.kind in
    nothing_inside (place_of c.args.at) type c.in_ok-kind.ensures
    (has_none type (sym c.if-has_entries.ensures) (sym c.if-not-has_members.ensures))
    c.args.name.now

pub returns-in-Some-clause-leads : goal.returns-in-Some-clause-leads
returns-in-Some-clause-leads c =
    member_leads (place_of c.args.at) (type_number c.in_ok-kind.kind) c.in_ok-kind.ensures
    c.args.name.now (sym c.if-has_entries.ensures) (sym c.if-not-has_members.ensures)
    c.in-Some.number (sym c.in-Some.ensures) c.member.result c.member.ensures

pub returns-in-Some-clause-tree : goal.returns-in-Some-clause-tree
returns-in-Some-clause-tree c =
    member_answers (place_of c.args.at) (type_number c.in_ok-kind.kind) c.in_ok-kind.ensures
    (sym c.if-not-has_members.ensures) (sym c.if-has_entries.ensures) c.args.name.now
    c.in-Some.number (sym c.in-Some.ensures) c.member.result c.member.ensures

pub returns-in_ok-member-in-None-clause-leads : goal.returns-in_ok-member-in-None-clause-leads
returns-in_ok-member-in-None-clause-leads c =
    no_number_leads (place_of c.args.at) (type_number c.in_ok-kind.kind) c.in_ok-kind.ensures
    c.args.name.now (sym c.if-has_entries.ensures) (sym c.if-not-has_members.ensures)
    (sym c.in-None.ensures) 0 _ c.in_ok-member-in-None.ensures

pub returns-in_err-member-in-None-clause-tree : goal.returns-in_err-member-in-None-clause-tree
returns-in_err-member-in-None-clause-tree c = λ s is.
    absurd (unread_list (place_of c.args.at) (type_number c.in_ok-kind.kind) c.in_ok-kind.ensures
    (sym c.if-not-has_members.ensures) (sym c.if-has_entries.ensures) c.args.name.now
    c.in_err-member-in-None.ensures.0 s is)

pub returns-in_ok-member-in-None-clause-tree : goal.returns-in_ok-member-in-None-clause-tree
returns-in_ok-member-in-None-clause-tree c =
    no_number_said (place_of c.args.at) (type_number c.in_ok-kind.kind) c.in_ok-kind.ensures
    (sym c.if-not-has_members.ensures) (sym c.if-has_entries.ensures) c.args.name.now
    (sym c.in-None.ensures)
