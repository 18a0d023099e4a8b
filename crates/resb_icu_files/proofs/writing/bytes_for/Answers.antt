-- A group that takes a file in lacks it.
use Rattle.std.proofs.Common.{sym}
use Rattle.resb_icu_files.specs.Writing.{not_there}
use Rattle.resb_icu_files.proofs.writing.bytes_for.Goals as goal

pub returns-in_ok-named-in-None-clause-err : goal.returns-in_ok-named-in-None-clause-err
returns-in_ok-named-in-None-clause-err c =
    let n = c.in_ok-named-in-None.ensures in
    let none = sym c.in-None.ensures in
    (not_there c.requires (rw c.said.ensures at none), n.0, n.1)
