use Rattle.resb_format.specs.Bytes.{units_of}
use Rattle.resb_walk.proofs.Marked.{known_is_text}
use Rattle.resb_walk.proofs.known.KnownTexts.has_text.Goals as goal

pub returns-in-Some : goal.returns-in-Some
returns-in-Some c h =
    let known = c.has_units.ensures h in
    known_is_text (units_of c.args.self.now.block.now) c.args.unit c.in-Some.from c.in-Some.count
    known.0 c.in-Some.ensures known.1
