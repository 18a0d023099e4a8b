use Rattle.std.proofs.Common.{rules, ◌≡◌}
use Rattle.resb_format.specs.Parts.{parts_in}
use Rattle.resb_read.specs.Leaves.{type_in, value_in, bytes_of_type, counted_bytes}
use Rattle.resb_read.proofs.texts.described.Goals as goal

pub returns-in-IntVector-clause-stands : goal.returns-in-IntVector-clause-stands
returns-in-IntVector-clause-stands c =
    let p = parts_in c.args.file in let w = c.args.word in
    let same : bytes_of_type p (type_in w) (value_in w) ≡ counted_bytes p 4 c.in_ok-kind.value =
    search rules in
    rw same c.counted_at-in-IntVector.ensures.stands
