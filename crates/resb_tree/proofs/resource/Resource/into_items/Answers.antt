use Rattle.std.proofs.Common.{◌∙◌, sym, ap}
use Rattle.resb_tree.specs.View.{tree_of}
use Rattle.resb_tree.proofs.DroppingLemmas.{no_resource_inside}
use Rattle.resb_tree.proofs.resource.Resource.into_items.Goals as goal

pub returns : goal.returns
returns c = no_resource_inside c.in-Array.items (ap tree_of (sym c.in-Array.is) ∙ c.requires)
