use Rattle.std.proofs.Common.{subst}
use Rattle.resb_c.specs.Compiling.{WritesBy}
use Rattle.resb_c.proofs.compiling.compile_over.Goals as goal

pub returns : goal.returns
returns c =
    subst (λ way. WritesBy way c.args.text.now c.args.out.now c.write_by.new.out
    c.write_by.result) c.over.ensures c.write_by.ensures
