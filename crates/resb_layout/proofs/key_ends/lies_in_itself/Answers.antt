use Rattle.std.proofs.Common.{◌==◌, length, ◌∙◌, ap}
use Rattle.resb_layout.proofs.KeyEndsLemmas.{length_tells}
use Rattle.resb_layout.proofs.key_ends.lies_in_itself.Goals as goal

pub returns : goal.returns
returns c = λ js o. ap (λ l. length l == length c.args.key.now) (c.container.ensures js o)
    ∙ length_tells js c.args.key.now
