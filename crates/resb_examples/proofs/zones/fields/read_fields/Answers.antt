use Rattle.std.proofs.Common.{subst}
use Rattle.resb_examples.specs.Inner.Fields.{entry_of, CostsAsEntry, FieldsFront}
use Rattle.resb_examples.proofs.Steps.{entry_step_some}
use Rattle.resb_examples.proofs.Fronts.{here, front_takes, readable_front_fails}
use Rattle.resb_examples.proofs.Lists.{OnErr_from}
use Rattle.resb_examples.proofs.zones.fields.read_fields.Goals as goal

pub take-requires : goal.take-requires
take-requires c =
    let l = c.entries in
    let all = c.args.entries.rest in
    let entry = entry_of c.in-Some.key c.in-Some.value in
    let new = c.next_entry_cursor.new.self in
    let before = c.args.walk.now in
    let h = rw c.in-Some.is at c.in_ok-key.ensures in
    let step = entry_step_some l.entries new l.invariant.0 (c.in-Some.key, c.in-Some.value) h in
    let front = subst (λ r. FieldsFront all r l.fields before l.walk) step.0 l.invariant.1 in
    here all entry new.rest l.fields before l.walk front CostsAsEntry c.requires.places

pub entries-preserved : goal.entries-preserved
entries-preserved c =
    let l = c.entries in
    let all = c.args.entries.rest in
    let entry = entry_of c.in-Some.key c.in-Some.value in
    let new = c.next_entry_cursor.new.self in
    let before = c.args.walk.now in
    let h = rw c.in-Some.is at c.in_ok-key.ensures in
    let step = entry_step_some l.entries new l.invariant.0 (c.in-Some.key, c.in-Some.value) h in
    let front = subst (λ r. FieldsFront all r l.fields before l.walk) step.0 l.invariant.1 in
    let (taken, paid) = c.in_ok-take.ensures.read in
    let takes = front_takes all entry new.rest l.fields before l.walk front in
    (step.1, takes c.take.new.self c.take.new.walk taken paid)

pub returns-in_err-take-clause-refused : goal.returns-in_err-take-clause-refused
returns-in_err-take-clause-refused c =
    let l = c.entries in
    let all = c.args.entries.rest in
    let entry = entry_of c.in-Some.key c.in-Some.value in
    let new = c.next_entry_cursor.new.self in
    let before = c.args.walk.now in
    let h = rw c.in-Some.is at c.in_ok-key.ensures in
    let step = entry_step_some l.entries new l.invariant.0 (c.in-Some.key, c.in-Some.value) h in
    let front = subst (λ r. FieldsFront all r l.fields before l.walk) step.0 l.invariant.1 in
    let (falls, spent) = c.in_err-take.ensures.refused in
    let fails = readable_front_fails all entry new.rest l.fields before l.walk front in
    OnErr_from _ _ (fails c.take.new.walk falls spent)
