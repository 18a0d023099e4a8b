use Rattle.std.proofs.Common.{subst}
use Rattle.resb_program.specs.Files.{LacksPool}
use Rattle.resb_c.proofs.SourceLemmas.{no_source}
use Rattle.resb_c.proofs.files.source_of.Goals as goal

pub returns-in-Ok-clause-ok : goal.returns-in-Ok-clause-ok
returns-in-Ok-clause-ok c =
    let lent = c.in_ok-pool.ensures.ok in
    let h = c.in-Ok.ensures in
    record {
      bundle = c.in_ok-pool.pool;
      is_given = lent.0;
      lent = lent.1;
      manner = h.0;
      bytes = h.1;
      lacks_none = subst (λ g. LacksPool g c.args.input.file.now → ⊥) lent.1 h.2;
    }

pub returns-in-Err-clause-err : goal.returns-in-Err-clause-err
returns-in-Err-clause-err c =
    let lent = c.in_ok-pool.ensures.ok in
    rw c.fault_in.ensures (no_source c.args.input.pool.now c.args.input.file.now
    c.in_ok-pool.pool c.in-Err.e lent.0 lent.1 c.in-Err.ensures)
