use Rattle.resb_write.proofs.strings.Strings.plan.Goals as goal

pub returns-clause-ok : goal.returns-clause-ok
returns-clause-ok c =
    let p = c.in_ok-pool.ensures.ok in
    record { offset = p.0; plan = p.1; offsets = p.2 }
