use Rattle.resb_grammar.proofs.Sound.{sound}
use Rattle.resb_grammar.proofs.laws.read_to_the_end_is_a_bundle.Goals as goal

pub returns : goal.returns
returns c = sound
