use Rattle.std.proofs.Common.{refl}
use Rattle.resb_text.specs.Inner.Steps.{takes_group}
use Rattle.resb_text.proofs.Outcomes.{match_err, match_same}
use Rattle.resb_text.proofs.StepsLemmas.{told}
use Rattle.resb_text.proofs.TypedGroups.{type_refused, opening_refused, typed_group_opened}
use Rattle.resb_text.proofs.TypedGroups.{opened_over, leaf_refused, leaf_added, leaf_over}
use Rattle.resb_text.proofs.TypedGroups.{no_items_begun}
use Rattle.resb_text.proofs.steps.typed.Goals as goal

pub returns-then-not-takes_group-clause-reads : goal.returns-then-not-takes_group-clause-reads
returns-then-not-takes_group-clause-reads g c =
    type_refused c.requires.among refl c.refusal.ensures
    (told c.requires.among takes_group c.takes_group.ensures c.if-not-takes_group.true)

pub returns-in_err-first-clause-reads : goal.returns-in_err-first-clause-reads
returns-in_err-first-clause-reads g c =
    let may = told c.requires.among takes_group c.takes_group.ensures c.if-not-takes_group.false in
    match_same _ _ _ _ c.from_residual.ensures.1
    (opening_refused c.requires.among may c.in_err-first.ensures.reads)

pub returns-in_err-take-clause-reads : goal.returns-in_err-take-clause-reads
returns-in_err-take-clause-reads g c =
    let may = told c.requires.among takes_group c.takes_group.ensures c.if-not-takes_group.false in
    match_err _ _ _ c.from_residual-in_err-take.ensures.1 (λ e same.
    opened_over c.requires.among _ may c.in_ok-first.ensures.reads c.in-Some.ensures
    c.group_bytes.ensures c.in_err-take.ensures same)

pub returns-in-Some-clause-reads : goal.returns-in-Some-clause-reads
returns-in-Some-clause-reads g c =
    let may = told c.requires.among takes_group c.takes_group.ensures c.if-not-takes_group.false in
    typed_group_opened c.requires.among _ may c.in_ok-first.ensures.reads
    c.in_ok-first.ensures.cost.1 c.byte.ensures.byte c.in-Some.ensures
    c.in_ok-open.ensures.shows c.group_bytes.ensures c.in_ok-take.ensures

pub returns-in_err-next-clause-reads : goal.returns-in_err-next-clause-reads
returns-in_err-next-clause-reads g c =
    let may = told c.requires.among takes_group c.takes_group.ensures c.if-not-takes_group.false in
    match_same _ _ _ _ c.from_residual-in_err-next.ensures.1
    (leaf_refused c.requires.among may c.in_ok-first.ensures.reads
    (no_items_begun c.args.quota.now.limit.weights _ c.in_default.ensures)
    c.in_err-next.ensures.reads c.in_err-next.ensures.quota)

pub returns-in_err-take-2-clause-reads : goal.returns-in_err-take-2-clause-reads
returns-in_err-take-2-clause-reads g c =
    let may = told c.requires.among takes_group c.takes_group.ensures c.if-not-takes_group.false in
    match_err _ _ _ c.from_residual-in_err-take-2.ensures.1 (λ e same.
    leaf_over c.requires.among may c.in_ok-first.ensures.reads
    c.in_ok-next.ensures.reads.group c.in_ok-next.ensures.quota c.leaf_bytes.ensures
    c.in_err-take-2.ensures same)

pub returns-clause-reads : goal.returns-clause-reads
returns-clause-reads g c =
    let may = told c.requires.among takes_group c.takes_group.ensures c.if-not-takes_group.false in
    leaf_added c.requires.among may c.in_ok-first.ensures.reads c.in_ok-next.ensures.reads.group
    c.in_ok-next.ensures.cost.1 c.byte-2.ensures.byte c.in_ok-add_leaf.ensures.shows
    c.in_ok-next.ensures.quota c.leaf_bytes.ensures c.in_ok-take-2.ensures

pub add_leaf-requires : goal.add_leaf-requires
add_leaf-requires g c = λ k.
    ((refl, tt), c.in_ok-next.ensures.reads.paired)

pub leaf_bytes-requires : goal.leaf_bytes-requires
leaf_bytes-requires g c = record { paired = c.in_ok-next.ensures.reads.paired }
