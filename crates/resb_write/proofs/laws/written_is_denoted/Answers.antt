use Rattle.resb_write.proofs.laws.written_is_denoted.Goals as goal

pub returns : goal.returns
returns c = λ q bytes t fallback ks w. (w.tree, w.alone)
