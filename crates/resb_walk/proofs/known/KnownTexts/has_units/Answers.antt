use Rattle.std.proofs.Common.{◌+◌, ◌≤◌, length, arith}
use Rattle.resb_format.specs.Bytes.{units_of}
use Rattle.resb_format.proofs.Spelled.{units_length}
use Rattle.resb_walk.proofs.known.KnownTexts.has_units.Goals as goal

pub returns : goal.returns
returns c h =
    let block = c.args.self.now.block.now in
    let same = c.args.self.now.of_block c.in-Some.breaks c.in-Some.is in
    let inside : c.args.from + c.args.count ≤ length (units_of block) =
    omega (arith, units_length block) in
    (inside, rw same at (c.is_text.ensures.0 h))
