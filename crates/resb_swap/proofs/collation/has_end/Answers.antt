use Rattle.resb_swap.proofs.CollationLemmas.{data_inside}
use Rattle.resb_swap.proofs.collation.has_end.Goals as goal

pub header_of-requires : goal.header_of-requires
header_of-requires c = data_inside _ _ c.requires.headed
