use Rattle.std.proofs.Common.{ap, sym, ◌∙◌}
use Rattle.resb_format.specs.Parts.{parts_in}
use Rattle.resb_walk.proofs.Counted.{counted_width}
use Rattle.resb_walk.proofs.scale.Scale.counted_len.Goals as goal

pub returns-in-Some-clause-len : goal.returns-in-Some-clause-len
returns-in-Some-clause-len c s e =
    let self = c.args.self.now in
    let found = c.in-Ok.ensures in
    counted_width (parts_in self.file) c.args.word self.counted.block.now c.in-Ok.units.now s
    (ap (λ b. b.now) self.of_body) found.place found.stands e
    ∙ sym c.in-Some.ensures.1
