use Rattle.resb_layout.proofs.KeptLemmas.{kept_are_least}
use Rattle.resb_layout.proofs.key_laws.kept_keys_are_least.Goals as goal

pub returns : goal.returns
returns c = kept_are_least
