use Rattle.resb_tree.proofs.MapsLemmas.{IsMap-view}
use Rattle.resb_tree.proofs.laws.table_ascends.Goals as goal

pub returns : goal.returns
returns c = IsMap-view c.args.table.now.entries c.len-length.ensures.ordered
