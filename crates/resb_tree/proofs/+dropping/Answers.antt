use Rattle.std.proofs.Common.{arith}
use Rattle.resb_tree.proofs.DroppingLemmas.{drop_steps}
use Rattle.resb_tree.proofs.+dropping.Goals as goal

pub dropping::drop_all-pending-init : goal.dropping::drop_all-pending-init
dropping::drop_all-pending-init c = grind (arith, drop_steps)

pub dropping::drop_all-members-init : goal.dropping::drop_all-members-init
dropping::drop_all-members-init c = grind (arith, drop_steps)

pub dropping::drop_all-members-smaller : goal.dropping::drop_all-members-smaller
dropping::drop_all-members-smaller c = grind (arith, drop_steps)

pub dropping::drop_all-members-preserved : goal.dropping::drop_all-members-preserved
dropping::drop_all-members-preserved c = grind (arith, drop_steps)

pub dropping::drop_all-drop_empty-requires : goal.dropping::drop_all-drop_empty-requires
dropping::drop_all-drop_empty-requires c = grind (arith, drop_steps)

pub dropping::drop_all-pending-smaller : goal.dropping::drop_all-pending-smaller
dropping::drop_all-pending-smaller c = grind (arith, drop_steps)

pub dropping::drop_all-pending-preserved : goal.dropping::drop_all-pending-preserved
dropping::drop_all-pending-preserved c = grind (arith, drop_steps)

pub dropping::drop_all-destroy_empty-requires : goal.dropping::drop_all-destroy_empty-requires
dropping::drop_all-destroy_empty-requires c = grind (arith, drop_steps)

pub resource::Resource::drop-drop_all-requires : goal.resource::Resource::drop-drop_all-requires
resource::Resource::drop-drop_all-requires c = grind (arith, drop_steps)

pub resource::Resource::drop-entries-init : goal.resource::Resource::drop-entries-init
resource::Resource::drop-entries-init c = grind (arith, drop_steps)

pub resource::Resource::drop-list_beside-requires
    : goal.resource::Resource::drop-list_beside-requires
resource::Resource::drop-list_beside-requires c = grind (arith, drop_steps)

pub resource::Resource::drop-values-init : goal.resource::Resource::drop-values-init
resource::Resource::drop-values-init c = grind (arith, drop_steps)

pub resource::Resource::drop-values-smaller : goal.resource::Resource::drop-values-smaller
resource::Resource::drop-values-smaller c = grind (arith, drop_steps)

pub resource::Resource::drop-values-preserved : goal.resource::Resource::drop-values-preserved
resource::Resource::drop-values-preserved c = grind (arith, drop_steps)

pub resource::Resource::drop-drop_all-requires-in-Ok
    : goal.resource::Resource::drop-drop_all-requires-in-Ok
resource::Resource::drop-drop_all-requires-in-Ok c = grind (arith, drop_steps)

pub resource::Resource::drop-entries-smaller-in-Ok
    : goal.resource::Resource::drop-entries-smaller-in-Ok
resource::Resource::drop-entries-smaller-in-Ok c = grind (arith, drop_steps)

pub resource::Resource::drop-entries-preserved-in-Ok
    : goal.resource::Resource::drop-entries-preserved-in-Ok
resource::Resource::drop-entries-preserved-in-Ok c = grind (arith, drop_steps)

pub resource::Resource::drop-drop-requires-in-Err
    : goal.resource::Resource::drop-drop-requires-in-Err
resource::Resource::drop-drop-requires-in-Err c = grind (arith, drop_steps)

pub resource::Resource::drop-entries-smaller : goal.resource::Resource::drop-entries-smaller
resource::Resource::drop-entries-smaller c = grind (arith, drop_steps)

pub resource::Resource::drop-entries-preserved : goal.resource::Resource::drop-entries-preserved
resource::Resource::drop-entries-preserved c = grind (arith, drop_steps)
