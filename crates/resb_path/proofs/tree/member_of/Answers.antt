use Rattle.std.proofs.Common.{◌∙◌, sym, ap, slice_get}
use Rattle.std.specs.Option.{option_and_then}
use Rattle.resb_tree.specs.View.{items_view}
use Rattle.resb_tree.specs.LayingOrder.{array_members}
use Rattle.resb_path.proofs.FindingLemmas.{tree_found}
use Rattle.resb_path.proofs.tree.member_of.Goals as goal

pub returns : goal.returns
returns c =
    tree_found c.args.members.now c.in_ok-number_of.field-0 c.get.result c.get.ensures.lookup
    ∙ ap (option_and_then (slice_get (array_members (items_view c.args.members.now))))
    (sym c.in_ok-number_of.was ∙ c.number_of.ensures)
