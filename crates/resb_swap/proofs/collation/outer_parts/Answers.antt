use Rattle.resb_swap.proofs.CollationLemmas.{data_inside}
use Rattle.resb_swap.proofs.collation.outer_parts.Goals as goal

pub header_of-header-requires : goal.header_of-header-requires
header_of-header-requires c = data_inside _ _ c.requires.headed
