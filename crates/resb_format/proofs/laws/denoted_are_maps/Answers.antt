use Rattle.resb_format.proofs.Mapped.{denoted_maps}
use Rattle.resb_format.proofs.laws.denoted_are_maps.Goals as goal

pub returns : goal.returns
returns c = λ p w n t d. denoted_maps p d
