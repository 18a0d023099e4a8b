use Rattle.resb_write.proofs.laws.written_with_pool_is_read.Goals as goal

pub returns : goal.returns
returns c = λ q pool bytes t fallback ks w. w.tree
