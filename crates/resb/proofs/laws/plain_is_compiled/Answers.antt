use Rattle.resb.proofs.laws.plain_is_compiled.Goals as goal

pub returns : goal.returns
returns c = λ text bytes h. h.compiled
