use Rattle.std.proofs.Common.{◌≡◌, sym, arith}
use Rattle.resb_format.specs.Descriptor.{type_number}
use Rattle.resb_format.proofs.Apart.{type_apart}
use Rattle.resb_read.specs.Leaves.{type_in}
use Rattle.resb_read.proofs.faults.value_of.Goals as goal

pub returns-clause-ok : goal.returns-clause-ok
returns-clause-ok c =
    let wanted : type_in c.args.word ≡ type_number c.args.wanted = grind (arith, type_apart) in
    (wanted, sym c.in_ok-kind.ensures.value)
