use Rattle.std.proofs.Common.{◌∙◌, ap}
use Rattle.resb_tree.specs.LayingOrder.{trees_in}
use Rattle.resb_tree.proofs.LayingOrderLemmas.{trees_in-reverse}
use Rattle.resb_tree.proofs.laying_order.in_laying_order.Goals as goal

pub returns : goal.returns
returns c =
    ap trees_in c.reverse.ensures.items ∙ trees_in-reverse c.push_laid.new.order.items
    ∙ c.in_ok-push_laid.ensures
