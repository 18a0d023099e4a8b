use Rattle.resb_icu_text.proofs.StepsLemmas.{behind_member, behind_value}
use Rattle.resb_icu_text.proofs.steps.resume.Goals as goal

pub returns-in_ok-push_item-in-Array-clause-reads
    : goal.returns-in_ok-push_item-in-Array-clause-reads
returns-in_ok-push_item-in-Array-clause-reads g c =
    rw c.in-Array.is (behind_member _ c.in-Array.members c.push_item.new.items c.args.made _ _
    c.skip.ensures.skip c.skip.ensures.order c.skip.ensures.fits
    c.in_ok-push_item-in-Array.ensures.items)

pub returns-in_ok-push_item-in-Table-clause-reads
    : goal.returns-in_ok-push_item-in-Table-clause-reads
returns-in_ok-push_item-in-Table-clause-reads g c =
    rw c.in-Table.is (behind_value _ c.in-Table.entries c.push_item-in-Table.new.items
    c.in-Table.key c.args.made _ _ c.skip-in-Table.ensures.skip c.skip-in-Table.ensures.order
    c.skip-in-Table.ensures.fits c.in_ok-push_item-in-Table.ensures.items)
