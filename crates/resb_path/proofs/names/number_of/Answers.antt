use Rattle.std.proofs.Common.{◌≡◌, true, false}
use Rattle.resb_path.specs.Finding.{is_adorned}
use Rattle.resb_path.proofs.FindingLemmas.{read_number_is_said, no_number_is_said}
use Rattle.resb_path.proofs.FindingLemmas.{none_is_said}
use Rattle.resb_path.proofs.names.number_of.Goals as goal

pub returns-then-is_adorned : goal.returns-then-is_adorned
returns-then-is_adorned c =
    let a : is_adorned c.args.name.now ≡ true = cc in none_is_said c.args.name.now a

pub returns-in-Ok : goal.returns-in-Ok
returns-in-Ok c =
    let a : is_adorned c.args.name.now ≡ false = cc in
    read_number_is_said c.args.name.now c.in-Ok.number a c.in-Ok.ensures.value.0

pub returns-in-Err : goal.returns-in-Err
returns-in-Err c =
    let a : is_adorned c.args.name.now ≡ false = cc in
    no_number_is_said c.args.name.now a c.in-Err.ensures.value.0
